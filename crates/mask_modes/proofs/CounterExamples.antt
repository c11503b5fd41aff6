-- Counter mode computed at worked examples.
use Rattle.std.specs.Prelude.{◌≡◌, ℕ, ◌+◌, ◌%◌, List, [], ◌∷◌, map, refl}
use Rattle.mask_modes.specs.CounterMode.{bytes_of, counter, counter_mode, ciphertext_from, keystream}
use Rattle.mask_modes.specs.Steps.{blocks, on_numbers, on_little_numbers}

-- a cipher on blocks of two bytes that adds one to each
abbrev raised : List ℕ → List ℕ
raised bytes = map (λ b. (b + 1) % 256) bytes

high_bytes_first : bytes_of 3 0x010203 ≡ 1 ∷ 2 ∷ 3 ∷ []
high_bytes_first = refl

counts_up : counter 2 0xfffe 1 ≡ 255 ∷ 255 ∷ []
counts_up = refl

counters_wrap : counter 2 0xfffe 2 ≡ 0 ∷ 0 ∷ []
counters_wrap = refl

-- three bytes are two blocks, of which the second is short
short_block : counter_mode 2 0xfffe raised (0 ∷ 0 ∷ 7 ∷ []) ≡ 0 ∷ 255 ∷ 7 ∷ []
unfolding ciphertext_from keystream
short_block = refl

filled_up : blocks 2 (1 ∷ 2 ∷ 3 ∷ []) ≡ (1 ∷ 2 ∷ []) ∷ (3 ∷ 0 ∷ []) ∷ []
filled_up = refl

no_blocks : blocks 2 [] ≡ []
no_blocks = refl

-- one is added to a block as a number, from either end
big_endian_blocks : on_numbers 2 (λ key n. n + 1) [] (1 ∷ 255 ∷ []) ≡ 2 ∷ 0 ∷ []
big_endian_blocks = refl

little_endian_blocks : on_little_numbers 2 (λ key n. n + 1) [] (255 ∷ 1 ∷ []) ≡ 0 ∷ 2 ∷ []
little_endian_blocks = refl
