use Rattle.std.proofs.Common.{ℕ, ◌^◌, ◌≢◌, ◌<◌, length, get_or, set, arith, below_more, get_or-set_other, get_or-set_same}
use Rattle.mask_bits.specs.Square.{IsExchanged}
use Rattle.mask_bits.proofs.square.exchange.Goals as goal

pub loop-i-preserved : goal.loop-i-preserved
loop-i-preserved c =
    let now = set c.loop-i.rows c.loop-i.i c.exchanged_row.result in
    let P : ℕ → Type 0 = λ k. IsExchanged (2 ^ c.args.digit) c.args.rows.now k (get_or now k 0) in
    below_more P c.loop-i.i
    (λ k h. let other : k ≢ c.loop-i.i = omega arith in rw get_or-set_other (c.loop-i.invariant k h))
    (let within : c.loop-i.i < length c.loop-i.rows = omega arith in rw get_or-set_same c.exchanged_row.ensures)
