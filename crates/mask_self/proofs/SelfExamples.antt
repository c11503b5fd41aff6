-- What is made of a seed, and a sum of blocks.
use Rattle.std.proofs.Common.{◌≡◌, [], ◌∷◌, refl}
use Rattle.mask_self.specs.Generator.{bytes_from, next, top_byte}
use Rattle.mask_self.specs.Reports.{sum_of_blocks}
use Rattle.mask_self.specs.Selves.{own_lines, own_iv, own_message}

-- key lines, IV and message of seed 1 at order 1
lines_of_1 : own_lines 1 2 ≡ (108 ∷ 130 ∷ 165 ∷ 98 ∷ 203 ∷ 128 ∷ 141 ∷ 16 ∷ 214 ∷ 50 ∷ 190 ∷ 137 ∷ 200 ∷ 81 ∷ 62 ∷ 191 ∷ []) ∷ (108 ∷ 146 ∷ 159 ∷ 52 ∷ 221 ∷ 250 ∷ 140 ∷ 159 ∷ 99 ∷ 201 ∷ 150 ∷ 14 ∷ 246 ∷ 227 ∷ 72 ∷ 163 ∷ []) ∷ []
unfolding bytes_from next top_byte
lines_of_1 = refl

iv_of_1 : own_iv 1 2 ≡ 0x528c8a3fcc2f044e39a3fc5b94492f8f
unfolding bytes_from next top_byte
iv_of_1 = refl

message_of_1 : own_message 1 2 4 ≡ 3 ∷ 46 ∷ 117 ∷ 73 ∷ []
unfolding bytes_from next top_byte
message_of_1 = refl

-- the second block is short
sum_of_two_blocks : sum_of_blocks (1 ∷ 2 ∷ 3 ∷ 4 ∷ 5 ∷ 6 ∷ 7 ∷ 8 ∷ 9 ∷ 10 ∷ 11 ∷ 12 ∷ 13 ∷ 14 ∷ 15 ∷ 16 ∷ 7 ∷ []) ≡ 6 ∷ 2 ∷ 3 ∷ 4 ∷ 5 ∷ 6 ∷ 7 ∷ 8 ∷ 9 ∷ 10 ∷ 11 ∷ 12 ∷ 13 ∷ 14 ∷ 15 ∷ 16 ∷ []
sum_of_two_blocks = refl
