use Rattle.mask_macs.proofs.ChaskeyPlans as chaskey
use Rattle.mask_macs.proofs.LightMacPlans as light
use Rattle.mask_macs.proofs.laws.plans_split.Goals as goal

pub returns : goal.returns
returns c = record {
  chaskey = chaskey.plans_split;
  lightmac = λ size s tag is. light.plans_split size s is tag;
}
