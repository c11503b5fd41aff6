use Rattle.std.proofs.Common.{arith}
use Rattle.mask_counter.proofs.Counted.{counted}
use Rattle.mask_counter.proofs.words.counter_bytes.Goals as goal

pub returns : goal.returns
returns c = λ l lt.
    counted c.args.block c.args.iv c.args.first c.loop-at.bytes l c.requires.block c.loop-at.invariant.count lt (λ k hk. c.loop-at.invariant.made k (omega arith))
