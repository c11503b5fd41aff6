use Rattle.std.proofs.Common.{arith, rules}
use Rattle.mask_self.proofs.Summing.{block-added}
use Rattle.mask_self.proofs.reporting.add_block.Goals as goal

pub returns : goal.returns
returns c =
    block-added c.args.sum.now c.loop-k.sum c.args.block.now (search rules) c.loop-k.invariant.room c.requires
    (λ j lt. c.loop-k.invariant.done j (omega arith)) (λ j le. c.loop-k.invariant.rest j (omega arith))
