use Rattle.std.proofs.Common.{ℕ, List, length, get_or, ap, arith}
use Rattle.mask_check.proofs.Flagging.{FencesBefore-start, FencesBefore-more, output_within}
use Rattle.mask_check.proofs.fences.find_gap.Goals as goal

pub loop-place-init : goal.loop-place-init
loop-place-init c = FencesBefore-start c.args.circuit.now _ c.flag_all_operands.ensures

pub loop-place-preserved : goal.loop-place-preserved
loop-place-preserved c =
    FencesBefore-more c.args.circuit.now c.loop-place.place _ c.gate_at.result c.loop-place.flags
    (ap (λ (us : List ℕ). get_or us c.loop-place.place 0) c.outputs-output-items.ensures.same)
    (output_within c.args.circuit.now c.outputs-output-items.result.now c.loop-place.place c.outputs-output-items.ensures.circuit c.outputs-output-items.ensures.same
    c.loop-place-test.true)
    c.gate_at.ensures (c.is_refresh.ensures.0 c.if-not-is_refresh.false) c.if-flags-value.false c.loop-place.invariant

pub returns : goal.returns
returns c k within =
    let same = ap (λ (us : List ℕ). length us) c.outputs-output-items.ensures.same in
    c.loop-place.invariant.fences k (omega (arith, c.loop-place-test.false, same))
