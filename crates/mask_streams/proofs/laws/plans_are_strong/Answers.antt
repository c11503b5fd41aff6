use Rattle.mask_streams.proofs.Plans.{plans_are_strong}
use Rattle.mask_streams.proofs.laws.plans_are_strong.Goals as goal

pub returns : goal.returns
returns c = plans_are_strong
