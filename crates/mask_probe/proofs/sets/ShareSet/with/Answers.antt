use Rattle.mask_probe.proofs.ShareSets.{bit_shares-with}
use Rattle.mask_probe.proofs.sets.ShareSet.with.Goals as goal

pub returns : goal.returns
returns c i = rw c.self.view_is (bit_shares-with c.args.self c.args.share i c.requires)
