use Rattle.mask_laws.proofs.Gates.{gate_keeps}
use Rattle.mask_laws.proofs.Simulation.{accepted_is_simulated}
use Rattle.mask_laws.proofs.circuits.accepted_is_simulated.Goals as goal

pub returns : goal.returns
returns c = accepted_is_simulated gate_keeps
