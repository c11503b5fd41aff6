use Rattle.mask_macs.proofs.OwnSteps.{chaskey_steps, light_steps}
use Rattle.mask_macs.proofs.laws.pieces_are_steps.Goals as goal

pub returns : goal.returns
returns c = record { chaskey = chaskey_steps; lightmac = light_steps }
