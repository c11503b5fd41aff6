use Rattle.mask_macs.specs.Codes.{chaskey_code, lightmac_code}
use Rattle.mask_macs.proofs.ChaskeyPlans as chaskey
use Rattle.mask_macs.proofs.LightMacPlans as light
use Rattle.mask_macs.proofs.Messages.{plans_are_strong}
use Rattle.mask_macs.proofs.laws.plans_are_strong.Goals as goal

pub returns : goal.returns
returns c = record {
  chaskey = λ tag. plans_are_strong (chaskey_code tag) (chaskey.pieces tag);
  lightmac = λ size s tag is. plans_are_strong (lightmac_code size s tag) (light.pieces size s is tag);
}
