-- The generator of a run that makes its own input: the linear congruential generator of Knuth's MMIX.
use Rattle.std.specs.Prelude.{ℕ, zero, suc, ◌+◌, ◌*◌, ◌/◌, ◌%◌, ◌^◌, List}
use Rattle.mask_circuit.specs.Wires.{each}

-- the number behind x
unfoldable pub next : ℕ → ℕ
next x = (6_364_136_223_846_793_005 * x + 1_442_695_040_888_963_407) % 2 ^ 64

-- number k of the sequence of a seed, which is number 0
abbrev pub number_at : ℕ → ℕ → ℕ
number_at seed zero = seed
number_at seed (suc k) = next (number_at seed k)

-- the highest byte of a number of 64 bits
unfoldable pub top_byte : ℕ → ℕ
top_byte x = x / 2 ^ 56

-- byte k of a seed, from 0: that of number k + 1
abbrev pub byte_at : ℕ → ℕ → ℕ
byte_at seed k = top_byte (number_at seed (suc k))

-- n bytes of a seed from byte `place` on
unfoldable pub bytes_from : ℕ → ℕ → ℕ → List ℕ
bytes_from seed place n = each (λ k. byte_at seed (place + k)) n
