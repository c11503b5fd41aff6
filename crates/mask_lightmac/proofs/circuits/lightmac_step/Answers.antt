use Rattle.mask_present.specs.NamedPresent.{present_of_bits}
use Rattle.mask_lightmac.specs.LightMac.{absorbed}
use Rattle.mask_lightmac.specs.NamedLightMac.{step_of_bits}
use Rattle.mask_lightmac.proofs.circuits.lightmac_step.Goals as goal

pub returns-clause-circuit : goal.returns-clause-circuit
unfolding step_of_bits absorbed present_of_bits
returns-clause-circuit g c = c.present_circuit.ensures.circuit
