use Rattle.mask_laws.proofs.Refuting.{squared_leaks}
use Rattle.mask_laws.proofs.refutations.squared_leaks.Goals as goal

pub returns : goal.returns
returns c = squared_leaks
