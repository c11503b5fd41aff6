use Rattle.mask_macs.specs.Codes.{chaskey_code, lightmac_code}
use Rattle.mask_macs.proofs.ChaskeyValues as chaskey
use Rattle.mask_macs.proofs.LightMacValues as light
use Rattle.mask_macs.proofs.Messages.{registers_go_on}
use Rattle.mask_macs.proofs.laws.registers_go_on.Goals as goal

pub returns : goal.returns
returns c = record {
  chaskey = λ tag. registers_go_on (chaskey_code tag) (chaskey.pieces_go_on tag);
  lightmac = λ size s tag is. registers_go_on (lightmac_code size s tag) (light.pieces_go_on size s tag is);
}
