-- A square of bits: 64 rows of 64.
use Rattle.std.specs.Prelude.{◌≡◌, ℕ, ◌+◌, ◌-◌, ◌*◌, ◌/◌, ◌%◌, ◌<◌, nat_eq, List, slice_index}
use Rattle.mask_bits.specs.Reading.{bit}

-- bit j of row i becomes bit i of row j
abbrev pub IsTransposed : List ℕ → List ℕ → Type 0
IsTransposed old new = (i j : ℕ) → i < 64 → j < 64 → bit i (slice_index new j) ≡ bit j (slice_index old i)

-- the mask has the bits whose places lack the binary digit of weight w
abbrev pub IsMask : ℕ → ℕ → Type 0
IsMask w mask = (j : ℕ) → j < 64 → bit j mask ≡ nat_eq (j / w % 2) 0

-- the place a, its binary digit of weight w taken from b
abbrev pub across : ℕ → ℕ → ℕ → ℕ
across w a b = a - a / w % 2 * w + b / w % 2 * w

-- bit j of row i, after the digits of weight w of row and place were exchanged
abbrev pub IsExchanged : ℕ → List ℕ → ℕ → ℕ → Type 0
IsExchanged w old i row = (j : ℕ) → j < 64 → bit j row ≡ bit (across w j i) (slice_index old (across w i j))
