-- The names of the circuits that are built in, and their numbers of inputs and outputs.
use Rattle.std.specs.Prelude.{◌≡◌, ℕ, List, codes}
use Rattle.mask_tasks.specs.declared.names.Named.{Named}
use Rattle.mask_tasks.specs.declared.names.Named.TheVariants.{Present80, Present128, Lea128, Lea192, Lea256, Refresh80, Refresh128, Refresh192, Refresh256, TriviumStart, TriviumStep, LightmacStep80, LightmacEnd80, LightmacStep128, LightmacEnd128, ChaskeyStart, ChaskeyStep, ChaskeyEndWhole, ChaskeyEndShort}

abbrev pub name_text : Named → List ℕ
name_text Present80 = codes "present-80"
name_text Present128 = codes "present-128"
name_text Lea128 = codes "lea-128"
name_text Lea192 = codes "lea-192"
name_text Lea256 = codes "lea-256"
name_text Refresh80 = codes "refresh-80"
name_text Refresh128 = codes "refresh-128"
name_text Refresh192 = codes "refresh-192"
name_text Refresh256 = codes "refresh-256"
name_text TriviumStart = codes "trivium-start"
name_text TriviumStep = codes "trivium-step"
name_text LightmacStep80 = codes "lightmac-step-80"
name_text LightmacEnd80 = codes "lightmac-end-80"
name_text LightmacStep128 = codes "lightmac-step-128"
name_text LightmacEnd128 = codes "lightmac-end-128"
name_text ChaskeyStart = codes "chaskey-start"
name_text ChaskeyStep = codes "chaskey-step"
name_text ChaskeyEndWhole = codes "chaskey-end-whole"
name_text ChaskeyEndShort = codes "chaskey-end-short"

-- the bits of a key, a counter block and a message block; or of a key
abbrev pub input_count : Named → ℕ
input_count Present80 = 208
input_count Present128 = 256
input_count Lea128 = 384
input_count Lea192 = 448
input_count Lea256 = 512
input_count Refresh80 = 80
input_count Refresh128 = 128
input_count Refresh192 = 192
input_count Refresh256 = 256
-- of a key and an IV; of a state and a part of the message
input_count TriviumStart = 160
input_count TriviumStep = 352
-- of a key and two blocks
input_count LightmacStep80 = 208
input_count LightmacEnd80 = 208
input_count LightmacStep128 = 256
input_count LightmacEnd128 = 256
-- of a key; of a state and a block; of a state, a key and a block
input_count ChaskeyStart = 128
input_count ChaskeyStep = 256
input_count ChaskeyEndWhole = 384
input_count ChaskeyEndShort = 384

-- the bits of a block; or of a key; or of a state
abbrev pub output_count : Named → ℕ
output_count Present80 = 64
output_count Present128 = 64
output_count Lea128 = 128
output_count Lea192 = 128
output_count Lea256 = 128
output_count Refresh80 = 80
output_count Refresh128 = 128
output_count Refresh192 = 192
output_count Refresh256 = 256
output_count TriviumStart = 288
-- and of the part of the message
output_count TriviumStep = 352
output_count LightmacStep80 = 64
output_count LightmacEnd80 = 64
output_count LightmacStep128 = 64
output_count LightmacEnd128 = 64
output_count ChaskeyStart = 128
output_count ChaskeyStep = 128
output_count ChaskeyEndWhole = 128
output_count ChaskeyEndShort = 128

abbrev pub NamesAreDistinct : Type 0
NamesAreDistinct = (a b : Named) → name_text a ≡ name_text b → a ≡ b
