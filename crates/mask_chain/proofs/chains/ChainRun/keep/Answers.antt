use Rattle.std.proofs.Common.{◌≡◌, ℕ, List, ◌++◌, length, map, drop, ap, sym, subst, ◌∙◌, arith}
use Rattle.std.proofs.lemmas.List.{with_items_is}
use Rattle.std.proofs.lemmas.List.Elements.{All-append, All-drop}
use Rattle.mask_bits.specs.Lanes.{lane}
use Rattle.mask_trace.specs.Steps.{kept}
use Rattle.mask_trace.specs.Steps as steps
use Rattle.mask_chain.specs.Evaluations.{keeps}
use Rattle.mask_chain.specs.Chains.{AreShares, Chain, have, registers}
use Rattle.mask_chain.proofs.Registers.{put_front, registers-front}
use Rattle.mask_chain.proofs.chains.ChainRun.keep.Goals as goal

pub invariant_of-self : goal.invariant_of-self
invariant_of-self g c =
    let long : length c.put.new.places ≡ c.self.inside.key.len = omega arith in
    let old = c.deref_mut.result.now in
    let placed = put_front c.args.outputs.now old c.put.new.places c.put.ensures.front c.put.ensures.rest in (
      subst (AreShares g.row.N) (sym (with_items_is c.self.inside.key c.put.new.places long ∙ placed))
          (All-append (λ value. length value ≡ g.row.N) c.args.outputs.now (drop (length c.args.outputs.now) old) c.put.ensures.counts
          (All-drop (λ value. length value ≡ g.row.N) (length c.args.outputs.now) old
          (subst (AreShares g.row.N) (sym c.deref_mut.ensures.value) c.self.invariant.0))),
      c.self.invariant.1,
    )

pub returns-in-AsKey-clause-kept : goal.returns-in-AsKey-clause-kept
returns-in-AsKey-clause-kept g c =
    let long : length c.put.new.places ≡ c.self.inside.key.len = omega arith in
    let outputs = c.args.outputs.now in
    let state = c.self.inside.state.items in
    let placed = put_front outputs c.deref_mut.result.now c.put.new.places c.put.ensures.front c.put.ensures.rest in
    ap (λ (key : List (List ℕ)). registers key state)
    (with_items_is c.self.inside.key c.put.new.places long ∙ placed
    ∙ ap (λ (old : List (List ℕ)). outputs ++ drop (length outputs) old) c.deref_mut.ensures.value)
    ∙ registers-front outputs c.self.inside.key.items state
    ∙ ap (λ (run : Chain). kept steps.AsKey (map (lane 0) outputs) (have run)) c.self.view_is
    ∙ ap (λ keep. kept (keeps keep) (map (lane 0) outputs) (have c.args.self.now)) (sym c.in-AsKey.is)
