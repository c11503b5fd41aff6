use Rattle.mask_laws.proofs.Simulation.{accepted_needs_few}
use Rattle.mask_laws.proofs.circuits.accepted_needs_few_shares.Goals as goal

pub returns : goal.returns
returns c = accepted_needs_few
