use Rattle.mask_laws.proofs.Simulation.{accepted_fits}
use Rattle.mask_laws.proofs.circuits.accepted_fits.Goals as goal

pub returns : goal.returns
returns c = accepted_fits
