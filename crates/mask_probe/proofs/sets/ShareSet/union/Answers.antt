use Rattle.mask_bits.proofs.Words.{bit-or}
use Rattle.mask_probe.proofs.sets.ShareSet.union.Goals as goal

pub returns : goal.returns
returns c i = rw (c.self.view_is, c.other.view_is) (bit-or c.args.self c.args.other i)
