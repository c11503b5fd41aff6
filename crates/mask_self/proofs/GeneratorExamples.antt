-- The first bytes of seeds.
use Rattle.std.proofs.Common.{◌≡◌, [], ◌∷◌, refl}
use Rattle.mask_self.specs.Generator.{bytes_from, next, top_byte}

bytes_of_1 : bytes_from 1 0 8 ≡ 108 ∷ 130 ∷ 165 ∷ 98 ∷ 203 ∷ 128 ∷ 141 ∷ 16 ∷ []
unfolding bytes_from next top_byte
bytes_of_1 = refl

later_bytes_of_1 : bytes_from 1 6 2 ≡ 141 ∷ 16 ∷ []
unfolding bytes_from next top_byte
later_bytes_of_1 = refl

bytes_of_the_greatest : bytes_from 0xffff_ffff_ffff_ffff 0 4 ≡ 187 ∷ 177 ∷ 143 ∷ 107 ∷ []
unfolding bytes_from next top_byte
bytes_of_the_greatest = refl
