use Rattle.mask_ciphers.proofs.Gates.{gates_go_on}
use Rattle.mask_ciphers.proofs.laws.gates_go_on.Goals as goal

pub returns : goal.returns
returns c = gates_go_on
