use Rattle.mask_laws.proofs.Refuting.{taken_twice_leaks}
use Rattle.mask_laws.proofs.refutations.taken_twice_leaks.Goals as goal

pub returns : goal.returns
returns c = taken_twice_leaks
