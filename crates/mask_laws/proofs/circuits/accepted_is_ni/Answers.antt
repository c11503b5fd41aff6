use Rattle.mask_laws.proofs.Gates.{gate_keeps}
use Rattle.mask_laws.proofs.Simulation.{accepted_is_ni}
use Rattle.mask_laws.proofs.circuits.accepted_is_ni.Goals as goal

pub returns : goal.returns
returns c = accepted_is_ni gate_keeps
