use Rattle.mask_ciphers.proofs.Breaking.{plans_are_strong}
use Rattle.mask_ciphers.proofs.laws.plans_are_strong.Goals as goal

pub returns : goal.returns
returns c = plans_are_strong
