-- Tags of Chaskey-12 that programs computed which share nothing with its definitions here.
use Rattle.std.proofs.Common.{◌≡◌, ℕ, List, [], ◌∷◌, take, replicate, refl}
use Rattle.std.specs.List.{range_with_len}
use Rattle.mask_parts.specs.Turns.{in_turn}
use Rattle.mask_parts.specs.Words32.{words_of, joined}
use Rattle.mask_chaskey.specs.Chaskey.{mixed, turned, round, permuted, permutation, doubled, last_mask, absorbed, finished, bytes_of, block_at, blocks_before, last_bytes, end_of, padded, last_block, state_before_last, chaskey_mac}

-- the keys 00 01 .. 0f, and f0 f1 .. ff, of which both doubles feed back
abbrev key : List ℕ
key = range_with_len 0 16

abbrev high_key : List ℕ
high_key = range_with_len 240 16

-- of no byte, of 16 zero bytes and of 17, and of the bytes 0 to 31 and 0 to 20
abbrev tag_of_nothing : List ℕ
tag_of_nothing = 0xd7 ∷ 0x3b ∷ 0xcc ∷ 0xf1 ∷ 0x97 ∷ 0x48 ∷ 0x76 ∷ 0x83 ∷ 0xbd ∷ 0x1c ∷ 0x30 ∷ 0x8f ∷ 0x38 ∷ 0x65 ∷ 0x6a ∷ 0x17 ∷ []

abbrev tag_of_16_zeros : List ℕ
tag_of_16_zeros = 0x70 ∷ 0x42 ∷ 0x69 ∷ 0x6d ∷ 0xdf ∷ 0xce ∷ 0x37 ∷ 0xb5 ∷ 0x58 ∷ 0x5b ∷ 0x39 ∷ 0xfb ∷ 0x0e ∷ 0x03 ∷ 0x8a ∷ 0x99 ∷ []

abbrev tag_of_17_zeros : List ℕ
tag_of_17_zeros = 0x82 ∷ 0xad ∷ 0x70 ∷ 0x60 ∷ 0xba ∷ 0xf3 ∷ 0xc7 ∷ 0xc4 ∷ 0xf6 ∷ 0x6d ∷ 0x03 ∷ 0xcb ∷ 0x4a ∷ 0x3c ∷ 0xc2 ∷ 0x86 ∷ []

abbrev tag_of_32_bytes : List ℕ
tag_of_32_bytes = 0x21 ∷ 0x58 ∷ 0x1b ∷ 0x4f ∷ 0xa6 ∷ 0x95 ∷ 0x2e ∷ 0xdf ∷ 0x16 ∷ 0x80 ∷ 0xcb ∷ 0xff ∷ 0x2c ∷ 0xa9 ∷ 0x19 ∷ 0xb4 ∷ []

abbrev tag_of_21_bytes : List ℕ
tag_of_21_bytes = 0xd6 ∷ 0xd6 ∷ 0x7a ∷ 0x8c ∷ 0xda ∷ 0x81 ∷ 0xe2 ∷ 0xab ∷ 0xf9 ∷ 0x5e ∷ 0xb8 ∷ 0x27 ∷ 0xbd ∷ 0x65 ∷ 0xb0 ∷ 0x52 ∷ []

tag_of_nothing-vector : chaskey_mac key [] 16 ≡ tag_of_nothing
unfolding chaskey_mac state_before_last last_block padded end_of last_bytes blocks_before block_at bytes_of finished absorbed last_mask doubled permutation joined words_of permuted in_turn round turned mixed
tag_of_nothing-vector = refl

tag_of_16_zeros-vector : chaskey_mac key (replicate 16 0) 16 ≡ tag_of_16_zeros
unfolding chaskey_mac state_before_last last_block padded end_of last_bytes blocks_before block_at bytes_of finished absorbed last_mask doubled permutation joined words_of permuted in_turn round turned mixed
tag_of_16_zeros-vector = refl

tag_of_17_zeros-vector : chaskey_mac key (replicate 17 0) 16 ≡ tag_of_17_zeros
unfolding chaskey_mac state_before_last last_block padded end_of last_bytes blocks_before block_at bytes_of finished absorbed last_mask doubled permutation joined words_of permuted in_turn round turned mixed
tag_of_17_zeros-vector = refl

tag_of_32_bytes-vector : chaskey_mac high_key (range_with_len 0 32) 16 ≡ tag_of_32_bytes
unfolding chaskey_mac state_before_last last_block padded end_of last_bytes blocks_before block_at bytes_of finished absorbed last_mask doubled permutation joined words_of permuted in_turn round turned mixed
tag_of_32_bytes-vector = refl

tag_of_21_bytes-vector : chaskey_mac high_key (range_with_len 0 21) 16 ≡ tag_of_21_bytes
unfolding chaskey_mac state_before_last last_block padded end_of last_bytes blocks_before block_at bytes_of finished absorbed last_mask doubled permutation joined words_of permuted in_turn round turned mixed
tag_of_21_bytes-vector = refl

-- a shorter tag is the first part of it
short_tag-vector : chaskey_mac key [] 8 ≡ take 8 tag_of_nothing
unfolding chaskey_mac state_before_last last_block padded end_of last_bytes blocks_before block_at bytes_of finished absorbed last_mask doubled permutation joined words_of permuted in_turn round turned mixed
short_tag-vector = refl
