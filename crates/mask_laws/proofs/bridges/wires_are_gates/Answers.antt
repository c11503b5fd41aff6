use Rattle.mask_laws.proofs.Carrying.{wires_are_gates}
use Rattle.mask_laws.proofs.bridges.wires_are_gates.Goals as goal

pub returns : goal.returns
returns c = wires_are_gates
