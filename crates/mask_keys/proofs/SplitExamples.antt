-- Splits at worked examples, computed.
use Rattle.std.proofs.Common.{◌≡◌, [], ◌∷◌, refl, map}
use Rattle.mask_bits.specs.Reading.{low}
use Rattle.mask_keys.specs.Lines.{joined}
use Rattle.mask_keys.specs.Splitting.{packed, shares_at, split_line, split_lines}
use Rattle.mask_keys.specs.Laws.{split_hits}

-- the key 00ff at order 1, with the bytes a5 3c of a tape
order_1 : split_lines 1 (0 ∷ 0xff ∷ []) (low (0xa5 ∷ 0x3c ∷ [])) ≡ (0xa5 ∷ 0xc3 ∷ []) ∷ (0xa5 ∷ 0x3c ∷ []) ∷ []
unfolding split_lines split_line shares_at packed
order_1 = refl

joined_1 : joined ((0xa5 ∷ 0xc3 ∷ []) ∷ (0xa5 ∷ 0x3c ∷ []) ∷ []) ≡ 0 ∷ 0xff ∷ []
joined_1 = refl

-- the key c3 at order 3, with the bytes 9a 5e 01
order_3 : split_lines 3 (0xc3 ∷ []) (low (0x9a ∷ 0x5e ∷ 0x01 ∷ [])) ≡ (0xee ∷ []) ∷ (0x1a ∷ []) ∷ (0x2f ∷ []) ∷ (0x18 ∷ []) ∷ []
unfolding split_lines split_line shares_at packed
order_3 = refl

-- One line of two is the byte 4d for 1 of 256 tapes, whatever the key is; but both lines are 4d with the key 00 alone.
one_line : map (λ key. split_hits 1 (key ∷ []) (0 ∷ []) ((0x4d ∷ []) ∷ [])) (0 ∷ 0xff ∷ []) ≡ 1 ∷ 1 ∷ []
unfolding split_lines split_line shares_at packed
one_line = refl

both_lines : map (λ key. split_hits 1 (key ∷ []) (0 ∷ 1 ∷ []) ((0x4d ∷ []) ∷ (0x4d ∷ []) ∷ [])) (0 ∷ 0xff ∷ []) ≡ 1 ∷ 0 ∷ []
unfolding split_lines split_line shares_at packed
both_lines = refl
