use Rattle.mask_laws.proofs.Gates.{gate_keeps}
use Rattle.mask_laws.proofs.Seen.{fitting_is_simulated}
use Rattle.mask_laws.proofs.circuits.fitting_probes_are_simulated.Goals as goal

pub returns : goal.returns
returns c = fitting_is_simulated gate_keeps
