use Rattle.mask_laws.proofs.Clashing.{clash_decides}
use Rattle.mask_laws.proofs.bridges.clash_decides.Goals as goal

pub returns : goal.returns
returns c = clash_decides
