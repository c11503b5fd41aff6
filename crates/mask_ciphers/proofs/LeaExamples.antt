-- What tasks of LEA write, and what they draw, computed. The ciphertexts of one block are published (Hong and others, WISA
-- 2013); that of two is of a program that shares nothing with these definitions.
use Rattle.std.proofs.Common.{◌≡◌, ℕ, ◌-◌, ◌^◌, List, ◌++◌, [], ◌∷◌, replicate, refl}
use Rattle.mask_tasks.specs.declared.sizes.LeaSize.TheVariants.{K128, K192, K256}
use Rattle.mask_tasks.specs.declared.tasks.Task.TheVariants.{Lea}
use Rattle.mask_lea.specs.Lea.{deltas, delta, place, word_updated, key_updated, round_key, mixed, block_mixed, round, lea_words, lea}
use Rattle.mask_modes.specs.CounterMode.{keystream, ciphertext_from}
use Rattle.mask_parts.specs.Turns.{in_turn}
use Rattle.mask_parts.specs.Words32.{words_of, joined}
use Rattle.mask_ciphers.specs.Tasks.{output}
use Rattle.mask_ciphers.specs.Totals.{total}

-- WHAT IS WRITTEN

-- keys, each beginning with the shorter one
abbrev key_128 : List ℕ
key_128 = 0x0f ∷ 0x1e ∷ 0x2d ∷ 0x3c ∷ 0x4b ∷ 0x5a ∷ 0x69 ∷ 0x78 ∷ 0x87 ∷ 0x96 ∷ 0xa5 ∷ 0xb4 ∷ 0xc3 ∷ 0xd2 ∷ 0xe1 ∷ 0xf0 ∷ []

abbrev key_192 : List ℕ
key_192 = key_128 ++ (0xf0 ∷ 0xe1 ∷ 0xd2 ∷ 0xc3 ∷ 0xb4 ∷ 0xa5 ∷ 0x96 ∷ 0x87 ∷ [])

abbrev key_256 : List ℕ
key_256 = key_192 ++ (0x78 ∷ 0x69 ∷ 0x5a ∷ 0x4b ∷ 0x3c ∷ 0x2d ∷ 0x1e ∷ 0x0f ∷ [])

lea_128 : output (Lea K128 0x101112131415161718191a1b1c1d1e1f) key_128 (replicate 16 0)
    ≡ 0x9f ∷ 0xc8 ∷ 0x4e ∷ 0x35 ∷ 0x28 ∷ 0xc6 ∷ 0xc6 ∷ 0x18 ∷ 0x55 ∷ 0x32 ∷ 0xc7 ∷ 0xa7 ∷ 0x04 ∷ 0x64 ∷ 0x8b ∷ 0xfd ∷ []
unfolding output ciphertext_from keystream lea lea_words in_turn round block_mixed mixed round_key key_updated word_updated place delta deltas words_of joined
lea_128 = refl

lea_192 : output (Lea K192 0x202122232425262728292a2b2c2d2e2f) key_192 (replicate 16 0)
    ≡ 0x6f ∷ 0xb9 ∷ 0x5e ∷ 0x32 ∷ 0x5a ∷ 0xad ∷ 0x1b ∷ 0x87 ∷ 0x8c ∷ 0xdc ∷ 0xf5 ∷ 0x35 ∷ 0x76 ∷ 0x74 ∷ 0xc6 ∷ 0xf2 ∷ []
unfolding output ciphertext_from keystream lea lea_words in_turn round block_mixed mixed round_key key_updated word_updated place delta deltas words_of joined
lea_192 = refl

lea_256 : output (Lea K256 0x303132333435363738393a3b3c3d3e3f) key_256 (replicate 16 0)
    ≡ 0xd6 ∷ 0x51 ∷ 0xaf ∷ 0xf6 ∷ 0x47 ∷ 0xb1 ∷ 0x89 ∷ 0xc1 ∷ 0x3a ∷ 0x89 ∷ 0x00 ∷ 0xca ∷ 0x27 ∷ 0xf9 ∷ 0xe1 ∷ 0x97 ∷ []
unfolding output ciphertext_from keystream lea lea_words in_turn round block_mixed mixed round_key key_updated word_updated place delta deltas words_of joined
lea_256 = refl

-- the greatest counter is followed by 0, and the last block is short
lea_wraps : output (Lea K128 (2 ^ 128 - 1)) key_128 (replicate 17 0)
    ≡ 0x77 ∷ 0x86 ∷ 0x8e ∷ 0xf1 ∷ 0xc9 ∷ 0x13 ∷ 0x4d ∷ 0x93 ∷ 0x52 ∷ 0x1c ∷ 0x27 ∷ 0x60 ∷ 0x20 ∷ 0x91 ∷ 0xea ∷ 0x04 ∷ 0x48 ∷ []
unfolding output ciphertext_from keystream lea lea_words in_turn round block_mixed mixed round_key key_updated word_updated place delta deltas words_of joined
lea_wraps = refl

-- WHAT IS DRAWN, in bits

lea_128_at_order_2 : total (Lea K128 0) 2 16 ≡ 31_888
unfolding total
lea_128_at_order_2 = refl

lea_192_at_order_1 : total (Lea K192 0) 1 16 ≡ 15_880
unfolding total
lea_192_at_order_1 = refl

lea_256_at_order_1 : total (Lea K256 0) 1 16 ≡ 18_112
unfolding total
lea_256_at_order_1 = refl

-- 256 blocks with three refreshes of the key
lea_128_with_refreshes : total (Lea K128 0) 1 4_096 ≡ 2_732_416
unfolding total
lea_128_with_refreshes = refl

lea_128_of_63_blocks : total (Lea K128 0) 2 1_000 ≡ 2_008_944
unfolding total
lea_128_of_63_blocks = refl
