use Rattle.std.proofs.Common.{◌≡◌, ℕ, ◌≤◌, List, [], ◌∷◌, length, map, take, sym, ap, ap₂, subst, ◌∙◌, arith}
use Rattle.std.specs.List.{length_refill}
use Rattle.std.specs.Vec.{with_items}
use Rattle.std.proofs.lemmas.List.{with_items_is, length-map, length-take-le}
use Rattle.mask_bits.specs.Lanes.{lane}
use Rattle.mask_circuit.specs.Netlist.{Netlist}
use Rattle.mask_eval.specs.Frames.{IsFrameOf}
use Rattle.mask_eval.specs.Evaluated.{EvaluatesInLanes}
use Rattle.mask_trace.specs.Drawing.{Ran, stand}
use Rattle.mask_modes.specs.Steps.{refresh_step}
use Rattle.mask_counter.specs.Batches.{Between, have, mode}
use Rattle.mask_counter.proofs.Evaluations.{refreshed}
use Rattle.mask_counter.proofs.counter.CounterRun.renew.Goals as goal

pub invariant_of-self-2 : goal.invariant_of-self-2
invariant_of-self-2 g c =
    let key : ℕ = c.self.inside.key in
    let long : length c.put_in_all_lanes.new.inputs ≡ c.self.inside.inputs.len = omega arith in
    let fits : IsFrameOf c.evaluate.new.frame c.self.inside.refresh
    = subst (λ (net : Netlist). IsFrameOf c.evaluate.new.frame net) c.admitted.ensures.same c.evaluate.ensures.fits in
    let many : length c.outputs.result.now ≡ key = ap length c.outputs.ensures ∙ fits.outputs ∙ c.self.invariant.refresh_gives in
    let front : take key (with_items c.self.inside.inputs c.put_in_all_lanes.new.inputs).items ≡ take (length c.outputs.result.now) c.put_in_all_lanes.new.inputs
    = ap₂ (λ (n : ℕ) (l : List (List ℕ)). take n l) (sym many) (with_items_is c.self.inside.inputs c.put_in_all_lanes.new.inputs long) in
    record {
      some = c.self.invariant.some;
      few = c.self.invariant.few;
      is_block = c.self.invariant.is_block;
      iv_fits = c.self.invariant.iv_fits;
      takes = c.self.invariant.takes;
      gives = c.self.invariant.gives;
      refresh_takes = c.self.invariant.refresh_takes;
      refresh_gives = c.self.invariant.refresh_gives;
      many_inputs = sym (length_refill c.self.inside.inputs.len c.self.inside.inputs.items c.put_in_all_lanes.new.inputs c.self.inside.inputs.ok.0)
          ∙ c.self.inside.inputs.ok.0 ∙ c.self.invariant.many_inputs;
      many_counters = c.self.invariant.many_counters;
      many_blocks = c.self.invariant.many_blocks;
      fits = c.self.invariant.fits;
      refresh_fits = fits;
      same = λ l lt. ap (map (lane l)) front ∙ c.put_in_all_lanes.ensures.lanes l lt
          ∙ sym (ap (map (lane 0)) front ∙ c.put_in_all_lanes.ensures.lanes 0 (omega arith));
    }

pub returns-clause-ran : goal.returns-clause-ran
returns-clause-ran g c =
    let key : ℕ = c.self.inside.key in
    let long : length c.put_in_all_lanes.new.inputs ≡ c.self.inside.inputs.len = omega arith in
    let within : key ≤ length c.self.inside.inputs.items = let many = c.self.invariant.many_inputs in omega arith in
    let fits : IsFrameOf c.evaluate.new.frame c.self.inside.refresh
    = subst (λ (net : Netlist). IsFrameOf c.evaluate.new.frame net) c.admitted.ensures.same c.evaluate.ensures.fits in
    let many : length c.evaluate.new.frame.outputs ≡ key = fits.outputs ∙ c.self.invariant.refresh_gives in
    let shown : length c.outputs.result.now ≡ key = ap length c.outputs.ensures ∙ many in
    let now_is : map (lane 0) (take key (with_items c.self.inside.inputs c.put_in_all_lanes.new.inputs).items) ≡ map (lane 0) c.evaluate.new.frame.outputs
    = ap (map (lane 0)) (ap₂ (λ (n : ℕ) (l : List (List ℕ)). take n l) (sym shown) (with_items_is c.self.inside.inputs c.put_in_all_lanes.new.inputs long))
    ∙ c.put_in_all_lanes.ensures.lanes 0 (omega arith) ∙ ap (map (lane 0)) c.outputs.ensures in
    let run : Between = record {
      circuit = c.self.inside.circuit;
      refresh = c.self.inside.refresh;
      key = c.self.inside.key;
      block = c.self.inside.block;
      order = c.self.inside.order;
      iv = c.self.inside.iv;
      shares = map (lane 0) (take c.self.inside.key c.self.inside.inputs.items);
      done = c.self.inside.done;
      outputs = c.self.inside.frame.outputs;
    } in
    let e : EvaluatesInLanes c.self.inside.refresh g.row.N 1 (take c.self.inside.key c.self.inside.inputs.items) [] []
    c.args.tape.now c.evaluate.new.tape (g.E.Entropy.left c.args.entropy.now) (g.E.Entropy.left c.evaluate.new.entropy)
    (g.W.Watch.told c.args.watch.now) (g.W.Watch.told c.evaluate.new.watch) c.evaluate.new.frame.outputs
    = subst (λ (l : List (List ℕ)). EvaluatesInLanes c.self.inside.refresh g.row.N 1 (take c.self.inside.key l) [] []
    c.args.tape.now c.evaluate.new.tape (g.E.Entropy.left c.args.entropy.now) (g.E.Entropy.left c.evaluate.new.entropy)
    (g.W.Watch.told c.args.watch.now) (g.W.Watch.told c.evaluate.new.watch) c.evaluate.new.frame.outputs) c.deref.ensures.value
    (subst (λ (net : Netlist). EvaluatesInLanes net g.row.N 1 (take c.self.inside.key c.deref.result.now) [] []
    c.args.tape.now c.evaluate.new.tape (g.E.Entropy.left c.args.entropy.now) (g.E.Entropy.left c.evaluate.new.entropy)
    (g.W.Watch.told c.args.watch.now) (g.W.Watch.told c.evaluate.new.watch) c.evaluate.new.frame.outputs) c.admitted.ensures.same c.in-Ok.ensures.evaluates) in
    subst (λ (r : Between). Ran g.row.N (have r) (refresh_step (mode r) ∷ [])
    (record { key = map (lane 0) (take key (with_items c.self.inside.inputs c.put_in_all_lanes.new.inputs).items); state = [] })
    (stand c.args.tape.now (g.E.Entropy.left c.args.entropy.now) (g.W.Watch.told c.args.watch.now))
    (stand c.evaluate.new.tape (g.E.Entropy.left c.evaluate.new.entropy) (g.W.Watch.told c.evaluate.new.watch))) c.self.view_is
    (refreshed g.row.N run c.args.tape.now c.evaluate.new.tape (g.E.Entropy.left c.args.entropy.now) (g.E.Entropy.left c.evaluate.new.entropy)
    (g.W.Watch.told c.args.watch.now) (g.W.Watch.told c.evaluate.new.watch) c.evaluate.new.frame.outputs
    (take key c.self.inside.inputs.items) c.self.invariant.same
    (length-map (take key c.self.inside.inputs.items) (lane 0) ∙ length-take-le key c.self.inside.inputs.items within) c.requires.kept
    (map (lane 0) (take key (with_items c.self.inside.inputs c.put_in_all_lanes.new.inputs).items)) now_is many e)
