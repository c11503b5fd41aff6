-- Tags of LightMAC over PRESENT. The first one, of 256 pieces, is known from outside; the others, of the bytes 0, 1, 2 and so on, are
-- of a program that shares nothing with the definitions here.
use Rattle.std.proofs.Common.{◌≡◌, ℕ, List, [], ◌∷◌, replicate, refl}
use Rattle.std.specs.List.{range_with_len}
use Rattle.mask_tasks.specs.declared.sizes.KeySize.TheVariants.{K80, K128}
use Rattle.mask_parts.specs.PresentSbox.{sbox}
use Rattle.mask_present.specs.Present.{substituted, permuted, round_key, rotated, replaced, updated, register_after, block_after, encrypted, present}
use Rattle.mask_lightmac.specs.LightMac.{bytes_of, absorbed, finished, counted, padded, pieces_before, piece_at, last_piece, value_after, value_before_last, lightmac}

-- the keys 00 01 .. 13, and e0 e1 .. ff
abbrev key_80 : List ℕ
key_80 = range_with_len 0 20

abbrev key_128 : List ℕ
key_128 = range_with_len 224 32

all_counters-80 : lightmac K80 1 8 (replicate 20 255) (replicate 1792 0) ≡ 0xa8 ∷ 0x25 ∷ 0xde ∷ 0xd1 ∷ 0xb5 ∷ 0x73 ∷ 0x40 ∷ 0x01 ∷ []
unfolding lightmac value_before_last value_after last_piece piece_at pieces_before padded counted finished absorbed bytes_of present encrypted block_after register_after round_key updated rotated replaced substituted sbox permuted
all_counters-80 = refl

nothing-80 : lightmac K80 1 8 key_80 [] ≡ 0x14 ∷ 0xc8 ∷ 0x9b ∷ 0x5c ∷ 0x15 ∷ 0x5d ∷ 0xd4 ∷ 0x75 ∷ []
unfolding lightmac value_before_last value_after last_piece piece_at pieces_before padded counted finished absorbed bytes_of present encrypted block_after register_after round_key updated rotated replaced substituted sbox permuted
nothing-80 = refl

one_piece-80 : lightmac K80 1 8 key_80 (range_with_len 0 7) ≡ 0x32 ∷ 0x3a ∷ 0x0f ∷ 0x98 ∷ 0xd2 ∷ 0xed ∷ 0xd7 ∷ 0xa1 ∷ []
unfolding lightmac value_before_last value_after last_piece piece_at pieces_before padded counted finished absorbed bytes_of present encrypted block_after register_after round_key updated rotated replaced substituted sbox permuted
one_piece-80 = refl

one_byte_more-80 : lightmac K80 1 4 key_80 (range_with_len 0 8) ≡ 0x3b ∷ 0xdd ∷ 0x25 ∷ 0xbd ∷ []
unfolding lightmac value_before_last value_after last_piece piece_at pieces_before padded counted finished absorbed bytes_of present encrypted block_after register_after round_key updated rotated replaced substituted sbox permuted
one_byte_more-80 = refl

counter_of_two-80 : lightmac K80 2 8 key_80 (range_with_len 0 7) ≡ 0xc8 ∷ 0xa0 ∷ 0xd7 ∷ 0x86 ∷ 0xfd ∷ 0x97 ∷ 0xa9 ∷ 0xea ∷ []
unfolding lightmac value_before_last value_after last_piece piece_at pieces_before padded counted finished absorbed bytes_of present encrypted block_after register_after round_key updated rotated replaced substituted sbox permuted
counter_of_two-80 = refl

counter_of_four-80 : lightmac K80 4 8 key_80 (range_with_len 0 5) ≡ 0x17 ∷ 0x09 ∷ 0x50 ∷ 0xb9 ∷ 0x37 ∷ 0x8d ∷ 0x28 ∷ 0xc6 ∷ []
unfolding lightmac value_before_last value_after last_piece piece_at pieces_before padded counted finished absorbed bytes_of present encrypted block_after register_after round_key updated rotated replaced substituted sbox permuted
counter_of_four-80 = refl

nothing-128 : lightmac K128 1 4 key_128 [] ≡ 0x8a ∷ 0x0c ∷ 0xa3 ∷ 0x63 ∷ []
unfolding lightmac value_before_last value_after last_piece piece_at pieces_before padded counted finished absorbed bytes_of present encrypted block_after register_after round_key updated rotated replaced substituted sbox permuted
nothing-128 = refl

one_piece-128 : lightmac K128 2 8 key_128 (range_with_len 0 6) ≡ 0x2e ∷ 0x23 ∷ 0x64 ∷ 0xe7 ∷ 0xfc ∷ 0x80 ∷ 0x07 ∷ 0xb5 ∷ []
unfolding lightmac value_before_last value_after last_piece piece_at pieces_before padded counted finished absorbed bytes_of present encrypted block_after register_after round_key updated rotated replaced substituted sbox permuted
one_piece-128 = refl

one_byte_more-128 : lightmac K128 2 4 key_128 (range_with_len 0 7) ≡ 0xcf ∷ 0x7f ∷ 0xa2 ∷ 0x1d ∷ []
unfolding lightmac value_before_last value_after last_piece piece_at pieces_before padded counted finished absorbed bytes_of present encrypted block_after register_after round_key updated rotated replaced substituted sbox permuted
one_byte_more-128 = refl

three_pieces-128 : lightmac K128 4 8 key_128 (range_with_len 0 9) ≡ 0x11 ∷ 0x70 ∷ 0x87 ∷ 0x5c ∷ 0x1f ∷ 0xb4 ∷ 0x09 ∷ 0x06 ∷ []
unfolding lightmac value_before_last value_after last_piece piece_at pieces_before padded counted finished absorbed bytes_of present encrypted block_after register_after round_key updated rotated replaced substituted sbox permuted
three_pieces-128 = refl
