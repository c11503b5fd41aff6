use Rattle.mask_keys.proofs.Joining.{splits_join}
use Rattle.mask_keys.proofs.laws.splits_join.Goals as goal

pub returns : goal.returns
returns c = splits_join
