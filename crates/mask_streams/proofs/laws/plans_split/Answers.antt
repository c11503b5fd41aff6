use Rattle.mask_streams.proofs.Plans.{plans_split}
use Rattle.mask_streams.proofs.laws.plans_split.Goals as goal

pub returns : goal.returns
returns c = plans_split
