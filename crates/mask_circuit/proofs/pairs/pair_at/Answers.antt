use Rattle.std.proofs.Common.{◌≡◌, ℕ, ◌+◌, Some, slice_get, subst, arith}
use Rattle.mask_circuit.specs.Wires.{pairs}
use Rattle.mask_circuit.specs.Pairs.{pair_number}
use Rattle.mask_circuit.proofs.PairNumbers.{pairs_before-more, row_left, slice_get-pairs}
use Rattle.mask_circuit.proofs.pairs.pair_at.Goals as goal

-- another row has the pair, so there is one
pub loop-i-smaller : goal.loop-i-smaller
loop-i-smaller c =
    let more = row_left c.args.shares c.loop-i.i c.args.number c.loop-i.rest c.requires.known c.loop-i.invariant.row c.loop-i.invariant.passed (omega arith) in
    omega arith

pub loop-i-preserved : goal.loop-i-preserved
loop-i-preserved c =
    let more = row_left c.args.shares c.loop-i.i c.args.number c.loop-i.rest c.requires.known c.loop-i.invariant.row c.loop-i.invariant.passed (omega arith) in
    let row = pairs_before-more c.args.shares c.loop-i.i in
    record { row = omega arith; passed = omega arith }

pub returns-clause-place : goal.returns-clause-place
returns-clause-place c =
    let j : ℕ = c.loop-i.i + 1 + c.loop-i.rest in
    let number : pair_number c.args.shares c.loop-i.i j ≡ c.args.number = omega (arith, c.loop-i.invariant.passed) in
    subst (λ (k : ℕ). slice_get (pairs c.args.shares) k ≡ Some (c.loop-i.i, j)) number
    (slice_get-pairs c.args.shares c.loop-i.i j (omega arith, omega (arith, c.loop-i.invariant.row)))
