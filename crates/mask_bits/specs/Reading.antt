-- Bits and bytes: the two readings, and the number that bits or bytes stand for.
use Rattle.std.specs.Prelude.{◌≡◌, ℕ, zero, suc, ◌+◌, ◌*◌, ◌/◌, ◌^◌, ◌<◌, Bool, false, nat_eq, List, [], ◌∷◌, ◌++◌, All, reverse, fold, replicate, if◌then◌else◌}
use Rattle.std.specs.List.{flat_map}
use Rattle.std.specs.Int.{bit_at}

-- a byte is a number of eight bits
abbrev pub AreBytes : List ℕ → Type 0
AreBytes bytes = All (λ byte. byte < 2 ^ 8) bytes

-- the bit of weight 2 ^ place of a word
abbrev pub bit : ℕ → ℕ → Bool
bit place word = nat_eq (bit_at word place) 1

-- the first n bits of a word, that of weight 1 first
abbrev pub lowest : ℕ → ℕ → List Bool
lowest zero word = []
lowest (suc n) word = lowest n word ++ bit n word ∷ []

-- the low-first reading: bit 8b + i is bit i of byte b
abbrev pub low : List ℕ → List Bool
low bytes = flat_map (λ (byte : ℕ). lowest 8 byte) bytes

-- the high-first reading: the bytes are one big-endian number, and bit j has weight 2 ^ j
abbrev pub high : List ℕ → List Bool
high bytes = low (reverse bytes)

-- the number in which bit j has weight 2 ^ j
abbrev pub number : List Bool → ℕ
number [] = 0
number (b ∷ bits) = (if b then 1 else 0) + 2 * number bits

-- the number that bytes stand for where the first one weighs most
abbrev pub big_endian : List ℕ → ℕ
big_endian bytes = fold (λ (n byte : ℕ). 256 * n + byte) 0 bytes

-- how many bytes so many bits need
abbrev pub bytes_for : ℕ → ℕ
bytes_for bits = (bits + 7) / 8

-- a reading begins with these bits and ends with fewer than eight zeros more
abbrev pub IsPadded : List Bool → List Bool → Type 0
IsPadded bits reading = (zeros : ℕ) × (zeros < 8) × (reading ≡ bits ++ replicate zeros false)
