use Rattle.std.proofs.Common.{ℕ, ◌-◌, ◌*◌, arith}
use Rattle.std.proofs.Math.Nat.{mod-lt}
use Rattle.mask_circuit.specs.Pairs.{pair_count}
use Rattle.mask_sni.proofs.Numbers.{row_below, product_count, term_at, fresh_at, left_at, right_at, row_at}
use Rattle.mask_sni.proofs.wires.product_wire.Goals as goal

pub returns-then-number-terms : goal.returns-then-number-terms
returns-then-number-terms c =
    term_at c.args.n c.args.number (row_below c.args.number c.args.n c.args.n (omega arith) (omega arith)) (mod-lt c.args.number (omega arith))

pub returns-in-0 : goal.returns-in-0
returns-in-0 c = fresh_at c.args.n c.args.number _ _ c.local_pair-i.ensures.pair (omega (arith, c.local_pair-i.ensures.number))

pub returns-in-1 : goal.returns-in-1
returns-in-1 c = left_at c.args.n c.args.number _ _ c.local_pair-i.ensures.pair (omega (arith, c.local_pair-i.ensures.number))

pub returns-in_default : goal.returns-in_default
returns-in_default c = right_at c.args.n c.args.number _ _ c.local_pair-i.ensures.pair (omega (arith, c.local_pair-i.ensures.number))

pub row_wire-requires-clause-row : goal.row_wire-requires-clause-row
row_wire-requires-clause-row c =
    let count = product_count c.args.n in
    rw c.pair_count.ensures.value
    (row_below (c.args.number - c.args.n * c.args.n - 3 * pair_count c.args.n) c.args.n (c.args.n - 1) (omega arith) (omega arith))

pub returns : goal.returns
returns c =
    let count = product_count c.args.n in
    let place : ℕ = c.args.number - c.args.n * c.args.n - 3 * pair_count c.args.n in
    rw (c.row_wire.ensures, c.other-column.ensures.partner, c.pair_count.ensures.value)
    (row_at c.args.n c.args.number place (omega arith) (row_below place c.args.n (c.args.n - 1) (omega arith) (omega arith)) (mod-lt place (omega arith)))
