use Rattle.mask_laws.proofs.Clashing.{clash_is_unique}
use Rattle.mask_laws.proofs.bridges.clash_is_unique.Goals as goal

pub returns : goal.returns
returns c = clash_is_unique
