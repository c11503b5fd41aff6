use Rattle.std.proofs.Common.{◌≡◌, ℕ, ◌-◌, ◌*◌, ◌≤◌, List, [], ◌++◌, length, map, take, sym, ap, subst, ◌∙◌, arith}
use Rattle.std.specs.List.{length_refill}
use Rattle.std.specs.Vec.{with_items}
use Rattle.std.proofs.lemmas.List.{with_items_is, length-map, length-take-le}
use Rattle.mask_bits.specs.Lanes.{lane}
use Rattle.mask_circuit.specs.Netlist.{Netlist}
use Rattle.mask_circuit.specs.Ring.{words}
use Rattle.mask_circuit.specs.Wires.{each, on_first}
use Rattle.mask_eval.specs.Frames.{IsFrameOf}
use Rattle.mask_eval.specs.Evaluated.{EvaluatesInLanes}
use Rattle.mask_trace.specs.Drawing.{stand}
use Rattle.mask_modes.specs.CounterMode.{block_count}
use Rattle.mask_counter.specs.Blocks.{reading}
use Rattle.mask_counter.specs.Batches.{Between, Encrypted, have, mode}
use Rattle.mask_counter.proofs.Evaluations.{encrypted, few_blocks, still_ready}
use Rattle.mask_counter.proofs.Lanes.{front_stays}
use Rattle.mask_counter.proofs.counter.CounterRun.encrypt.Goals as goal

pub returns-clause-ready : goal.returns-clause-ready
returns-clause-ready g c =
    still_ready (g.W.Watch.ready c.args.watch.now) (g.W.Watch.ready c.evaluate.new.watch) c.admitted.result.now c.args.self.now.circuit (g.row.N - 1)
    (block_count c.self.inside.block (length c.args.piece.now)) (block_count c.args.self.now.block (length c.args.piece.now))
    (c.admitted.ensures.same ∙ ap (λ (r : Between). r.circuit) c.self.view_is)
    (ap (λ (r : Between). block_count r.block (length c.args.piece.now)) c.self.view_is) c.in-Ok.ensures.ready

pub invariant_of-self-2 : goal.invariant_of-self-2
invariant_of-self-2 g c =
    let key : ℕ = c.self.inside.key in
    let long : length c.put_public.new.inputs ≡ c.self.inside.inputs.len = omega arith in
    let within : key ≤ length c.self.inside.inputs.items = let many = c.self.invariant.many_inputs in omega arith in
    let is : c.put_public.new.inputs ≡ take key c.self.inside.inputs.items ++ map (λ w. each (on_first words w) g.row.N) c.deref.result.now
    = c.put_public.ensures ∙ ap (λ (l : List (List ℕ)). take key l ++ map (λ w. each (on_first words w) g.row.N) c.deref.result.now) c.deref_mut-3.ensures.value in
    let front : take key (with_items c.self.inside.inputs c.put_public.new.inputs).items ≡ take key c.self.inside.inputs.items
    = ap (take key) (with_items_is c.self.inside.inputs c.put_public.new.inputs long)
    ∙ front_stays key c.self.inside.inputs.items c.put_public.new.inputs _ is within in
    record {
      some = c.self.invariant.some;
      few = c.self.invariant.few;
      is_block = c.self.invariant.is_block;
      iv_fits = c.self.invariant.iv_fits;
      takes = c.self.invariant.takes;
      gives = c.self.invariant.gives;
      refresh_takes = c.self.invariant.refresh_takes;
      refresh_gives = c.self.invariant.refresh_gives;
      many_inputs = sym (length_refill c.self.inside.inputs.len c.self.inside.inputs.items c.put_public.new.inputs c.self.inside.inputs.ok.0)
          ∙ c.self.inside.inputs.ok.0 ∙ c.self.invariant.many_inputs;
      many_counters = sym (length_refill c.self.inside.counters.len c.self.inside.counters.items c.block_words.new.words c.self.inside.counters.ok.0)
          ∙ c.self.inside.counters.ok.0 ∙ c.self.invariant.many_counters;
      many_blocks = sym (length_refill c.self.inside.blocks.len c.self.inside.blocks.items c.block_words-2.new.words c.self.inside.blocks.ok.0)
          ∙ c.self.inside.blocks.ok.0 ∙ c.self.invariant.many_blocks;
      fits = subst (λ (net : Netlist). IsFrameOf c.evaluate.new.frame net) c.admitted.ensures.same c.evaluate.ensures.fits;
      refresh_fits = c.self.invariant.refresh_fits;
      same = λ l lt. ap (map (lane l)) front ∙ c.self.invariant.same l lt ∙ sym (ap (map (lane 0)) front);
    }

pub returns-clause-encrypted : goal.returns-clause-encrypted
returns-clause-encrypted g c =
    let run : Between = record {
      circuit = c.self.inside.circuit;
      refresh = c.self.inside.refresh;
      key = c.self.inside.key;
      block = c.self.inside.block;
      order = c.self.inside.order;
      iv = c.self.inside.iv;
      shares = map (lane 0) (take c.self.inside.key c.self.inside.inputs.items);
      done = c.self.inside.done;
      outputs = c.self.inside.frame.outputs;
    } in
    let P : Between → Type 0 = λ r. Encrypted g.row.N (mode r) (have r) r.done c.args.piece.now c.evaluate.new.frame.outputs
    (stand c.args.tape.now (g.E.Entropy.left c.args.entropy.now) (g.W.Watch.told c.args.watch.now))
    (stand c.evaluate.new.tape (g.E.Entropy.left c.evaluate.new.entropy) (g.W.Watch.told c.evaluate.new.watch)) in
    let key : ℕ = c.self.inside.key in
    let within : key ≤ length c.self.inside.inputs.items = let many = c.self.invariant.many_inputs in omega arith in
    let long : length c.put_public.new.inputs ≡ c.self.inside.inputs.len = omega arith in
    let long_counters : length c.block_words.new.words ≡ c.self.inside.counters.len = omega arith in
    let long_blocks : length c.block_words-2.new.words ≡ c.self.inside.blocks.len = omega arith in
    let inputs_is : c.deref-2.result.now ≡ take key c.self.inside.inputs.items ++ map (λ w. each (on_first words w) g.row.N) c.deref.result.now
    = c.deref-2.ensures.value ∙ with_items_is c.self.inside.inputs c.put_public.new.inputs long ∙ c.put_public.ensures
    ∙ ap (λ (l : List (List ℕ)). take key l ++ map (λ w. each (on_first words w) g.row.N) c.deref.result.now) c.deref_mut-3.ensures.value in
    let counters_is : c.deref.result.now ≡ c.block_words.new.words
    = c.deref.ensures.value ∙ with_items_is c.self.inside.counters c.block_words.new.words long_counters in
    let blocks_is : c.deref-3.result.now ≡ c.block_words-2.new.words
    = c.deref-3.ensures.value ∙ with_items_is c.self.inside.blocks c.block_words-2.new.words long_blocks in
    let few : length c.args.piece.now ≤ 64 * c.self.inside.block = subst (λ (r : Between). length c.args.piece.now ≤ 64 * r.block) (sym c.self.view_is) c.requires.few in
    let e : EvaluatesInLanes c.self.inside.circuit g.row.N (block_count c.self.inside.block (length c.args.piece.now)) c.deref-2.result.now c.deref-3.result.now []
    c.args.tape.now c.evaluate.new.tape (g.E.Entropy.left c.args.entropy.now) (g.E.Entropy.left c.evaluate.new.entropy)
    (g.W.Watch.told c.args.watch.now) (g.W.Watch.told c.evaluate.new.watch) c.evaluate.new.frame.outputs
    = subst (λ (net : Netlist). EvaluatesInLanes net g.row.N (block_count c.self.inside.block (length c.args.piece.now)) c.deref-2.result.now c.deref-3.result.now []
    c.args.tape.now c.evaluate.new.tape (g.E.Entropy.left c.args.entropy.now) (g.E.Entropy.left c.evaluate.new.entropy)
    (g.W.Watch.told c.args.watch.now) (g.W.Watch.told c.evaluate.new.watch) c.evaluate.new.frame.outputs) c.admitted.ensures.same c.in-Ok.ensures.evaluates in
    subst P c.self.view_is
    (encrypted g.row.N run c.args.tape.now c.evaluate.new.tape (g.E.Entropy.left c.args.entropy.now) (g.E.Entropy.left c.evaluate.new.entropy)
    (g.W.Watch.told c.args.watch.now) (g.W.Watch.told c.evaluate.new.watch) c.evaluate.new.frame.outputs
    (take key c.self.inside.inputs.items) c.self.invariant.same
    (length-map (take key c.self.inside.inputs.items) (lane 0) ∙ length-take-le key c.self.inside.inputs.items within) c.requires.kept
    c.args.piece.now c.deref.result.now c.deref-3.result.now c.deref-2.result.now inputs_is
    (λ l lt. ap (lane l) counters_is ∙ c.block_words.ensures l lt ∙ ap (reading c.self.inside.order) (c.counter_bytes.ensures l lt))
    (λ l lt. ap (lane l) blocks_is ∙ c.block_words-2.ensures l lt)
    (few_blocks c.self.inside.block (length c.args.piece.now) c.self.invariant.is_block few) e)
