use Rattle.mask_keys.proofs.Hiding.{split_hides}
use Rattle.mask_keys.proofs.laws.split_hides.Goals as goal

pub returns : goal.returns
returns c = split_hides
