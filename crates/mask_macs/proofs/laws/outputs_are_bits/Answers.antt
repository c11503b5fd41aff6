use Rattle.mask_macs.proofs.ChaskeyTags as chaskey
use Rattle.mask_macs.proofs.LightMacTags as light
use Rattle.mask_macs.proofs.laws.outputs_are_bits.Goals as goal

pub returns : goal.returns
returns c = record {
  chaskey = chaskey.outputs_are_bits;
  lightmac = light.outputs_are_bits;
}
