use Rattle.mask_macs.proofs.ChaskeyBits as chaskey
use Rattle.mask_macs.proofs.LightMacBits as light
use Rattle.mask_macs.proofs.laws.run_bits.Goals as goal

pub returns : goal.returns
returns c = record {
  chaskey = chaskey.run_bits;
  lightmac = light.run_bits;
}
