-- LEA at the published vectors (Hong and others, WISA 2013; ISO/IEC 29192-2:2019), computed. The bytes are read low first.
use Rattle.std.proofs.Common.{◌≡◌, ℕ, List, [], ◌∷◌, ◌++◌, refl}
use Rattle.mask_bits.specs.Reading.{low, number}
use Rattle.mask_tasks.specs.declared.sizes.LeaSize.TheVariants.{K128, K192, K256}
use Rattle.mask_parts.specs.Turns.{in_turn}
use Rattle.mask_parts.specs.Words32.{words_of, joined}
use Rattle.mask_lea.specs.Lea.{deltas, delta, place, word_updated, key_updated, round_key, mixed, block_mixed, round, lea_words, lea}

-- the number of these bytes, and one list of bytes that begins all three keys
abbrev of_bytes : List ℕ → ℕ
of_bytes bytes = number (low bytes)

abbrev key_128 : List ℕ
key_128 = 0x0f ∷ 0x1e ∷ 0x2d ∷ 0x3c ∷ 0x4b ∷ 0x5a ∷ 0x69 ∷ 0x78 ∷ 0x87 ∷ 0x96 ∷ 0xa5 ∷ 0xb4 ∷ 0xc3 ∷ 0xd2 ∷ 0xe1 ∷ 0xf0 ∷ []

abbrev key_192 : List ℕ
key_192 = key_128 ++ (0xf0 ∷ 0xe1 ∷ 0xd2 ∷ 0xc3 ∷ 0xb4 ∷ 0xa5 ∷ 0x96 ∷ 0x87 ∷ [])

abbrev key_256 : List ℕ
key_256 = key_192 ++ (0x78 ∷ 0x69 ∷ 0x5a ∷ 0x4b ∷ 0x3c ∷ 0x2d ∷ 0x1e ∷ 0x0f ∷ [])

abbrev block_128 : List ℕ
block_128 = 0x10 ∷ 0x11 ∷ 0x12 ∷ 0x13 ∷ 0x14 ∷ 0x15 ∷ 0x16 ∷ 0x17 ∷ 0x18 ∷ 0x19 ∷ 0x1a ∷ 0x1b ∷ 0x1c ∷ 0x1d ∷ 0x1e ∷ 0x1f ∷ []

abbrev block_192 : List ℕ
block_192 = 0x20 ∷ 0x21 ∷ 0x22 ∷ 0x23 ∷ 0x24 ∷ 0x25 ∷ 0x26 ∷ 0x27 ∷ 0x28 ∷ 0x29 ∷ 0x2a ∷ 0x2b ∷ 0x2c ∷ 0x2d ∷ 0x2e ∷ 0x2f ∷ []

abbrev block_256 : List ℕ
block_256 = 0x30 ∷ 0x31 ∷ 0x32 ∷ 0x33 ∷ 0x34 ∷ 0x35 ∷ 0x36 ∷ 0x37 ∷ 0x38 ∷ 0x39 ∷ 0x3a ∷ 0x3b ∷ 0x3c ∷ 0x3d ∷ 0x3e ∷ 0x3f ∷ []

abbrev cipher_128 : List ℕ
cipher_128 = 0x9f ∷ 0xc8 ∷ 0x4e ∷ 0x35 ∷ 0x28 ∷ 0xc6 ∷ 0xc6 ∷ 0x18 ∷ 0x55 ∷ 0x32 ∷ 0xc7 ∷ 0xa7 ∷ 0x04 ∷ 0x64 ∷ 0x8b ∷ 0xfd ∷ []

abbrev cipher_192 : List ℕ
cipher_192 = 0x6f ∷ 0xb9 ∷ 0x5e ∷ 0x32 ∷ 0x5a ∷ 0xad ∷ 0x1b ∷ 0x87 ∷ 0x8c ∷ 0xdc ∷ 0xf5 ∷ 0x35 ∷ 0x76 ∷ 0x74 ∷ 0xc6 ∷ 0xf2 ∷ []

abbrev cipher_256 : List ℕ
cipher_256 = 0xd6 ∷ 0x51 ∷ 0xaf ∷ 0xf6 ∷ 0x47 ∷ 0xb1 ∷ 0x89 ∷ 0xc1 ∷ 0x3a ∷ 0x89 ∷ 0x00 ∷ 0xca ∷ 0x27 ∷ 0xf9 ∷ 0xe1 ∷ 0x97 ∷ []

lea_128-vector : lea K128 (of_bytes key_128) (of_bytes block_128) ≡ of_bytes cipher_128
unfolding lea lea_words in_turn round block_mixed mixed round_key key_updated word_updated place delta deltas words_of joined
lea_128-vector = refl

lea_192-vector : lea K192 (of_bytes key_192) (of_bytes block_192) ≡ of_bytes cipher_192
unfolding lea lea_words in_turn round block_mixed mixed round_key key_updated word_updated place delta deltas words_of joined
lea_192-vector = refl

lea_256-vector : lea K256 (of_bytes key_256) (of_bytes block_256) ≡ of_bytes cipher_256
unfolding lea lea_words in_turn round block_mixed mixed round_key key_updated word_updated place delta deltas words_of joined
lea_256-vector = refl
