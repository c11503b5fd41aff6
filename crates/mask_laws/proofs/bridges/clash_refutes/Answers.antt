use Rattle.mask_laws.proofs.Clashing.{clash_refutes}
use Rattle.mask_laws.proofs.bridges.clash_refutes.Goals as goal

pub returns : goal.returns
returns c = clash_refutes
