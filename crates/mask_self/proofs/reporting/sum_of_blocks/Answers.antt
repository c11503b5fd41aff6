use Rattle.std.proofs.Common.{◌*◌, ◌-◌, refl, sym, ◌∙◌, arith}
use Rattle.mask_self.proofs.Summing.{block-from, sum-more}
use Rattle.mask_self.proofs.reporting.sum_of_blocks.Goals as goal

pub loop-i-preserved : goal.loop-i-preserved
loop-i-preserved c =
    c.add_block.ensures
    ∙ sum-more c.args.bytes.now c.loop-i.sum c.loop-i.i _ c.loop-i.invariant (sym (block-from c.args.bytes.now c.loop-i.i (16 * c.loop-i.i) (c.min-end.result - 16 * c.loop-i.i) refl (omega (arith, c.min-end.ensures))))
