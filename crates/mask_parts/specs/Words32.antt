-- Words of 32 bits: their XOR and their sum as parts, rotations and constants; lists of words, and the number that they make.
--
-- A word is a list of 32 values, bit 0 first; bit i weighs 2 ^ i. A part on two words x and y is handed the bits of x and
-- then those of y, so bit i of x is at Given i, and bit i of y at Given (32 + i).
use Rattle.std.specs.Prelude.{◌≡◌, ℕ, zero, suc, ◌+◌, ◌-◌, ◌*◌, ◌/◌, ◌%◌, ◌^◌, ◌==◌, ◌<◌, List, [], ◌∷◌, ◌++◌, length, map, take, drop, All, slice_index_or, if◌then◌else◌}
use Rattle.std.specs.List.{range_with_len}
use Rattle.mask_bits.specs.Reading.{lowest}
use Rattle.mask_circuit.specs.declared.gates.Gate.{Gate}
use Rattle.mask_circuit.specs.Netlist.{Netlist, value_count}
use Rattle.mask_parts.specs.declared.tables.Place.TheVariants.{Given, Made}
use Rattle.mask_parts.specs.declared.tables.Step.{Step}
use Rattle.mask_parts.specs.declared.tables.Step.TheVariants.{Xor, Product}
use Rattle.mask_parts.specs.Drafts.{with_gates}
use Rattle.mask_parts.specs.Tables.{part_gates}

-- XOR

-- bit by bit
unfoldable pub xor32_steps : List Step
xor32_steps = map (λ i. Xor (Given i) (Given (32 + i))) (range_with_len 0 32)

-- the 32 gates, where the first makes value n
unfoldable pub xor32_gates : ℕ → List ℕ → List ℕ → List Gate
xor32_gates n xs ys = part_gates n (xs ++ ys) xor32_steps

-- the draft with them at its end
unfoldable pub with_xor32 : Netlist → List ℕ → List ℕ → Netlist
with_xor32 c xs ys = with_gates c (xor32_gates (value_count c) xs ys)

-- the values of the result's bits
unfoldable pub xor32_results : ℕ → List ℕ
xor32_results n = range_with_len n 32

-- SUM MODULO 2 ^ 32
--
-- The carries ripple through full adders of one product each (Boyar, Peralta and Pochuev 2000): the sum of the bits x and y
-- with a carry c is x xor (y xor c), and the next carry is (x xor c)(y xor c) xor c.

-- bit 0, which has no carry: value 0 is the sum, and value 2 the carry into bit 1
abbrev pub half_adder : List Step
half_adder = Xor (Given 0) (Given 32) ∷ (Product (Given 0) (Given 32) ∷ [])

-- Bit i, where value c is the carry and the last one made. Behind each step stands the value that it makes.
abbrev pub full_adder : ℕ → ℕ → List Step
full_adder i c =
    Xor (Given i) (Made c)  -- c + 1
    ∷ (Xor (Given (32 + i)) (Made c)  -- c + 2
    ∷ (Xor (Given i) (Made (c + 2))  -- c + 3, the sum
    ∷ (Product (Made (c + 1)) (Made (c + 2))  -- c + 5
    ∷ (Xor (Made (c + 5)) (Made c)  -- c + 6, the next carry
    ∷ []))))

-- bit i where no bit comes after it, so that the next carry isn't made: value c + 2 is the sum
abbrev pub last_adder : ℕ → ℕ → List Step
last_adder i c = Xor (Given (32 + i)) (Made c) ∷ (Xor (Given i) (Made (c + 1)) ∷ [])

-- the bits from bit i on, of which k have others after them, where value c is the carry into bit i
abbrev pub ripple : ℕ → ℕ → ℕ → List Step
ripple zero i c = last_adder i c
ripple (suc k) i c = full_adder i c ++ ripple k (i + 1) (c + 6)

unfoldable pub sum32_steps : List Step
sum32_steps = half_adder ++ ripple 30 1 2

-- the 185 gates, where the first makes value n
unfoldable pub sum32_gates : ℕ → List ℕ → List ℕ → List Gate
sum32_gates n xs ys = part_gates n (xs ++ ys) sum32_steps

-- the draft with them at its end
unfoldable pub with_sum32 : Netlist → List ℕ → List ℕ → Netlist
with_sum32 c xs ys = with_gates c (sum32_gates (value_count c) xs ys)

-- which of the part's values is bit i of the sum: the carry into bit i is value 6 * i - 4
abbrev pub sum_place : ℕ → ℕ
sum_place i = if i == 0 then 0 else if i == 31 then 184 else 6 * i - 1

-- the values of the result's bits
unfoldable pub sum32_results : ℕ → List ℕ
sum32_results n = map (λ i. n + sum_place i) (range_with_len 0 32)

-- ROTATION

-- the word rotated left by k places: its highest k bits come first
unfoldable pub rotated32 : ℕ → List ℕ → List ℕ
rotated32 k xs = drop (32 - k) xs ++ take (32 - k) xs

-- a number below 2 ^ 32 rotated left by k places
abbrev pub rol32 : ℕ → ℕ → ℕ
rol32 k n = n * 2 ^ k % 2 ^ 32 + n / 2 ^ (32 - k)

-- CONSTANTS

-- bit by bit the value `one` or the value `zero`
unfoldable pub constant32 : ℕ → ℕ → ℕ → List ℕ
constant32 nought one word = map (λ b. if b then one else nought) (lowest 32 word)

-- LISTS OF WORDS

-- word k of these
abbrev pub word : List (List ℕ) → ℕ → List ℕ
word ws k = slice_index_or ws k []

-- these are words of values of the draft
abbrev pub AreWordsOf : Netlist → List (List ℕ) → Type 0
AreWordsOf c ws = All (λ w. (length w ≡ 32) × All (λ u. u < value_count c) w) ws

-- WORDS AS NUMBERS BELOW 2 ^ 32

-- n words of a number, the lowest first
unfoldable pub words_of : ℕ → ℕ → List ℕ
words_of zero a = []
words_of (suc n) a = a % 2 ^ 32 ∷ words_of n (a / 2 ^ 32)

-- the number of words of which the first is the lowest
unfoldable pub joined : List ℕ → ℕ
joined [] = 0
joined (w ∷ ws) = w + 2 ^ 32 * joined ws
