use Rattle.mask_macs.proofs.ChaskeyTags as chaskey
use Rattle.mask_macs.proofs.LightMacTags as light
use Rattle.mask_macs.proofs.laws.output_fits.Goals as goal

pub returns : goal.returns
returns c = record {
  chaskey = chaskey.output_fits;
  lightmac = light.output_fits;
}
