use Rattle.mask_macs.specs.Codes.{chaskey_code, lightmac_code}
use Rattle.mask_macs.proofs.ChaskeyPlans as chaskey
use Rattle.mask_macs.proofs.LightMacPlans as light
use Rattle.mask_macs.proofs.Messages.{plans_are_strong, runs_are_private}
use Rattle.mask_macs.proofs.laws.runs_are_private.Goals as goal

pub returns : goal.returns
returns c = record {
  chaskey = λ tag. runs_are_private (chaskey_code tag) (plans_are_strong (chaskey_code tag) (chaskey.pieces tag));
  lightmac = λ size s tag is. runs_are_private (lightmac_code size s tag) (plans_are_strong (lightmac_code size s tag) (light.pieces size s is tag));
}
