-- Trivium at two vectors, computed. The second is one that the eSTREAM project published (set 6, vector 0), with its key and its
-- IV read from the last bit to the first.
--
-- The clocks without output are computed in four parts, since all at once they need too much memory. In the states between
-- them, as numbers, s1 weighs 1.
use Rattle.std.proofs.Common.{◌≡◌, ℕ, Bool, false, true, List, [], ◌∷◌, replicate, refl, ap, ◌∙◌}
use Rattle.mask_bits.specs.Reading.{lowest, low}
use Rattle.mask_trivium.specs.Trivium.{loaded, clocked, clocks, outputs, started, bytes, keystream}
use Rattle.mask_trivium.proofs.Shifting.{clocks-add}

-- four parts are all
quarters : (a b c d e : List Bool) → clocks 288 a ≡ b → clocks 288 b ≡ c → clocks 288 c ≡ d → clocks 288 d ≡ e → clocks 1152 a ≡ e
quarters a b c d e to_b to_c to_d to_e =
    clocks-add 288 864 a
    ∙ ap (clocks 864) to_b
    ∙ clocks-add 288 576 b
    ∙ ap (clocks 576) to_c
    ∙ clocks-add 288 288 c
    ∙ ap (clocks 288) to_d
    ∙ to_e

-- A KEY AND NO IV

abbrev key : List ℕ
key = 0x01 ∷ 0x23 ∷ 0x45 ∷ 0x67 ∷ 0x89 ∷ 0xab ∷ 0xcd ∷ 0xef ∷ 0x01 ∷ 0x23 ∷ []

abbrev no_iv : List ℕ
no_iv = replicate 10 0

abbrev first : List Bool
first = lowest 288 0xebdea26dc88bdb330822708b757fc59a6a30a0ea8729129cb63d9acef4e92b42a67d5e7a

abbrev second : List Bool
second = lowest 288 0x4d4e0f8cfae164fb475fdfd0c89a99029c47b442651f01ec2592922f31bf6ee5b7087de7

abbrev third : List Bool
third = lowest 288 0xf1fe54369086a11fff3a6158bf655d9fc901de59be1f6b74a9290af0931af14d097fdc1f

abbrev fourth : List Bool
fourth = lowest 288 0x57186e2e09fff2ede12cf7efcb83a734e548935962983e6a784eb162f96203bd1a7539b0

to_first : clocks 288 (loaded false true (low key) (low no_iv)) ≡ first
unfolding clocks clocked
to_first = refl

to_second : clocks 288 first ≡ second
unfolding clocks clocked
to_second = refl

to_third : clocks 288 second ≡ third
unfolding clocks clocked
to_third = refl

to_fourth : clocks 288 third ≡ fourth
unfolding clocks clocked
to_fourth = refl

from_fourth : bytes 8 (outputs 64 fourth) ≡ 0xfc ∷ 0x05 ∷ 0xf1 ∷ 0x81 ∷ 0xd0 ∷ 0xa1 ∷ 0x67 ∷ 0xf3 ∷ []
unfolding bytes outputs clocked
from_fourth = refl

key-vector : keystream key no_iv 8 ≡ 0xfc ∷ 0x05 ∷ 0xf1 ∷ 0x81 ∷ 0xd0 ∷ 0xa1 ∷ 0x67 ∷ 0xf3 ∷ []
unfolding keystream started
key-vector = rw (quarters (loaded false true (low key) (low no_iv)) first second third fourth to_first to_second to_third to_fourth) from_fourth

-- A KEY AND AN IV

abbrev other_key : List ℕ
other_key = 0xd7 ∷ 0x19 ∷ 0xa2 ∷ 0x4f ∷ 0xf9 ∷ 0x32 ∷ 0x9f ∷ 0x65 ∷ 0xca ∷ 0x00 ∷ []

abbrev iv : List ℕ
iv = 0x35 ∷ 0xa2 ∷ 0x7b ∷ 0xee ∷ 0x08 ∷ 0x95 ∷ 0x42 ∷ 0xdb ∷ 0x2e ∷ 0xb0 ∷ []

abbrev fifth : List Bool
fifth = lowest 288 0x98189993556fe3063bf4f33cd07747cebc8b22ddbe9020c5e9614fd64d0ae7d1a1541d7f

abbrev sixth : List Bool
sixth = lowest 288 0x6693058a2250bb97ed74a185cc08c6c92e852a7161f04992755b2df71e524369b6ed0c6a

abbrev seventh : List Bool
seventh = lowest 288 0x178c0ec12c9ca0e00208f2e7ac4db39e65de662c7a1dc4f1f0b6b9a00b4b82a20b13520f

abbrev eighth : List Bool
eighth = lowest 288 0x3c300417f3101bb41f2cd2d965db1faded90edae568424e40effbe5e4ee847c5ce053efd

to_fifth : clocks 288 (loaded false true (low other_key) (low iv)) ≡ fifth
unfolding clocks clocked
to_fifth = refl

to_sixth : clocks 288 fifth ≡ sixth
unfolding clocks clocked
to_sixth = refl

to_seventh : clocks 288 sixth ≡ seventh
unfolding clocks clocked
to_seventh = refl

to_eighth : clocks 288 seventh ≡ eighth
unfolding clocks clocked
to_eighth = refl

from_eighth : bytes 8 (outputs 64 eighth) ≡ 0xf4 ∷ 0xcd ∷ 0x95 ∷ 0x4a ∷ 0x71 ∷ 0x7f ∷ 0x26 ∷ 0xa7 ∷ []
unfolding bytes outputs clocked
from_eighth = refl

iv-vector : keystream other_key iv 8 ≡ 0xf4 ∷ 0xcd ∷ 0x95 ∷ 0x4a ∷ 0x71 ∷ 0x7f ∷ 0x26 ∷ 0xa7 ∷ []
unfolding keystream started
iv-vector = rw (quarters (loaded false true (low other_key) (low iv)) fifth sixth seventh eighth to_fifth to_sixth to_seventh to_eighth) from_eighth
