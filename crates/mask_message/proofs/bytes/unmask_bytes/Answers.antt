use Rattle.std.proofs.Common.{arith}
use Rattle.mask_message.proofs.Handing.{same-bytes}
use Rattle.mask_message.proofs.bytes.unmask_bytes.Goals as goal

pub returns : goal.returns
returns g c expected size are hands =
    same-bytes c.args.session.now c.args.block c.loop-k.bytes expected c.requires.block (omega arith) (λ k lt. c.loop-k.invariant.small k (omega arith)) are
    (λ k p lt few. c.loop-k.invariant.bits k p (omega arith) few) hands
