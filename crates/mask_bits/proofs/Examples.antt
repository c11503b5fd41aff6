-- The readings at worked examples, computed.
use Rattle.std.proofs.Common.{◌≡◌, true, false, [], ◌∷◌, ◌++◌, replicate, refl, lit<}
use Rattle.mask_bits.specs.Reading.{bit, low, high, number, big_endian, IsPadded}

-- byte 05 low first
low_of_5 : low (5 ∷ []) ≡ true ∷ false ∷ true ∷ replicate 5 false
low_of_5 = refl

-- bytes 05 80 high first: ones at 7, 8 and 10
high_of_1408 : high (5 ∷ 0x80 ∷ []) ≡ replicate 7 false ++ true ∷ true ∷ false ∷ true ∷ replicate 5 false
high_of_1408 = refl

-- the two numbers agree
number_of_1408 : number (high (5 ∷ 0x80 ∷ [])) ≡ 1408
number_of_1408 = refl

big_endian_of_1408 : big_endian (5 ∷ 0x80 ∷ []) ≡ 1408
big_endian_of_1408 = refl

-- nine bits take two bytes and seven zeros
nine_bits : IsPadded (replicate 8 false ++ true ∷ []) (low (0 ∷ 1 ∷ []))
nine_bits = (7, lit< tt, refl)

-- the top bit of a word, and the one below it
top_bit : bit 63 (0x8000_0000_0000_0000) ≡ true
top_bit = refl

below_top : bit 62 (0x8000_0000_0000_0000) ≡ false
below_top = refl
