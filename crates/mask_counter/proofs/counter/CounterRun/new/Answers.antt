use Rattle.std.proofs.Common.{◌≡◌, ℕ, List, length, map, take, sym, ap, subst, ◌∙◌, arith}
use Rattle.std.specs.List.{length_refill}
use Rattle.std.specs.Vec.{with_items}
use Rattle.std.proofs.lemmas.List.{with_items_is}
use Rattle.mask_bits.specs.Lanes.{lane}
use Rattle.mask_circuit.specs.Netlist.{Netlist}
use Rattle.mask_eval.specs.Frames.{IsFrameOf}
use Rattle.mask_counter.specs.Batches.{Between}
use Rattle.mask_counter.proofs.Evaluations.{with_shares}
use Rattle.mask_counter.proofs.counter.CounterRun.new.Goals as goal

pub invariant_of-result : goal.invariant_of-result
invariant_of-result g c =
    let key : ℕ = length c.args.key.now in
    let long : length c.put_in_all_lanes.new.inputs ≡ c.in_ok-inputs.inputs.len = omega arith in
    let front : take key (with_items c.in_ok-inputs.inputs c.put_in_all_lanes.new.inputs).items ≡ take key c.put_in_all_lanes.new.inputs
    = ap (take key) (with_items_is c.in_ok-inputs.inputs c.put_in_all_lanes.new.inputs long) in
    let refilled = length_refill c.in_ok-inputs.inputs.len c.in_ok-inputs.inputs.items c.put_in_all_lanes.new.inputs c.in_ok-inputs.inputs.ok.0 in
    record {
      some = c.requires.some;
      few = c.requires.few;
      is_block = c.requires.block;
      iv_fits = c.requires.iv;
      takes = c.requires.takes;
      gives = c.requires.gives;
      refresh_takes = c.requires.refresh_takes;
      refresh_gives = c.requires.refresh_gives;
      many_inputs = omega (arith, refilled, c.in_ok-inputs.ensures.len, c.in_ok-inputs.inputs.ok.0);
      many_counters = omega (arith, c.in_ok-counters.ensures.len, c.in_ok-counters.counters.ok.0);
      many_blocks = omega (arith, c.in_ok-blocks.ensures.len, c.in_ok-blocks.blocks.ok.0);
      fits = subst (λ (net : Netlist). IsFrameOf c.in_ok-frame.frame net) c.admitted.ensures.same c.in_ok-frame.ensures.fits;
      refresh_fits = subst (λ (net : Netlist). IsFrameOf c.in_ok-refresh_frame.refresh_frame net) c.admitted-2.ensures.same c.in_ok-refresh_frame.ensures.fits;
      same = λ l lt. ap (map (lane l)) front ∙ c.put_in_all_lanes.ensures.lanes l lt
          ∙ sym (ap (map (lane 0)) front ∙ c.put_in_all_lanes.ensures.lanes 0 (omega arith));
    }

pub returns : goal.returns
returns g c =
    let long : length c.put_in_all_lanes.new.inputs ≡ c.in_ok-inputs.inputs.len = omega arith in
    let run : Between = record {
      circuit = c.args.circuit;
      refresh = c.args.refresh;
      key = length c.args.key.now;
      block = c.args.block;
      order = c.args.order;
      iv = c.args.iv;
      shares = map (lane 0) c.args.key.now;
      done = 0;
      outputs = c.in_ok-frame.frame.outputs;
    } in
    ap (with_shares run) (ap (λ (l : List (List ℕ)). map (lane 0) (take (length c.args.key.now) l)) (with_items_is c.in_ok-inputs.inputs c.put_in_all_lanes.new.inputs long)
    ∙ c.put_in_all_lanes.ensures.lanes 0 (omega arith))
