use Rattle.std.proofs.Common.{arith, ◌∙◌}
use Rattle.mask_probe.proofs.Masked.{fresh_low, fresh_high}
use Rattle.mask_probe.proofs.gadgets.fresh_bit.Goals as goal

pub returns-then-i-k : goal.returns-then-i-k
returns-then-i-k g c =
    c.get.ensures ∙ rw c.pair_number.ensures.value (fresh_low c.args.tape.now c.args.start g.row.N c.args.i c.args.k (omega arith) (omega arith))

pub returns-else-i-k : goal.returns-else-i-k
returns-else-i-k g c =
    c.get-else-i-k.ensures
    ∙ rw c.pair_number-else-i-k.ensures.value (fresh_high c.args.tape.now c.args.start g.row.N c.args.i c.args.k (omega arith) (omega arith))
