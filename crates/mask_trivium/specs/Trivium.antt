-- The stream cipher Trivium (ISO/IEC 29192-3:2012; De Cannière and Preneel) on lists of bits.
--
-- The state is the 288 bits s1 to s288, in order. They stand in three registers, which begin with s1, s94 and s178.
use Rattle.std.specs.Prelude.{ℕ, zero, suc, ◌-◌, ◌*◌, Bool, true, false, ◌&&◌, List, [], ◌∷◌, ◌++◌, take, drop, replicate, slice_index_or, slice_set}
use Rattle.mask_bits.specs.Reading.{low, number}
use Rattle.mask_circuit.specs.Value.{xor}

infixl 35 ◌⊕◌
-- the sum of two bits
abbrev pub ◌⊕◌ : Bool → Bool → Bool
a ⊕ b = xor a b

-- bit s1, s2 and so on of a state
abbrev pub bit_of : List Bool → ℕ → Bool
bit_of state k = slice_index_or state (k - 1) false

-- what a clock outputs
abbrev pub output : List Bool → Bool
output state = let s = bit_of state in (s 66 ⊕ s 93) ⊕ (s 162 ⊕ s 177) ⊕ (s 243 ⊕ s 288)

-- what it puts into the first register, the second one and the third one
abbrev pub next_first : List Bool → Bool
next_first state = let s = bit_of state in s 243 ⊕ s 288 ⊕ (s 286 && s 287) ⊕ s 69

abbrev pub next_second : List Bool → Bool
next_second state = let s = bit_of state in s 66 ⊕ s 93 ⊕ (s 91 && s 92) ⊕ s 171

abbrev pub next_third : List Bool → Bool
next_third state = let s = bit_of state in s 162 ⊕ s 177 ⊕ (s 175 && s 176) ⊕ s 264

-- Three values come in as s1, s94 and s178. Every other one is the one before it.
abbrev pub shifted : {A : Type 0} → A → A → A → List A → List A
shifted first second third state = slice_set (slice_set (first ∷ take 287 state) 93 second) 177 third

-- the state after a clock
unfoldable pub clocked : List Bool → List Bool
clocked state = shifted (next_first state) (next_second state) (next_third state) state

-- and after n of them
unfoldable pub clocks : ℕ → List Bool → List Bool
clocks zero state = state
clocks (suc n) state = clocks n (clocked state)

-- what n clocks output
unfoldable pub outputs : ℕ → List Bool → List Bool
outputs zero state = []
outputs (suc n) state = output state ∷ outputs n (clocked state)

-- the state before the first clock, of 80 values of a key, 80 of an IV, and of the bits 0 and 1
abbrev pub loaded : {A : Type 0} → A → A → List A → List A → List A
loaded nought one key iv = key ++ replicate 13 nought ++ iv ++ replicate 4 nought ++ replicate 108 nought ++ replicate 3 one

-- the state after the 1152 clocks without output
unfoldable pub started : List Bool → List Bool → List Bool
started key iv = clocks 1152 (loaded false true key iv)

-- n bytes of bits, the lowest first
unfoldable pub bytes : ℕ → List Bool → List ℕ
bytes zero bits = []
bytes (suc n) bits = number (take 8 bits) ∷ bytes n (drop 8 bits)

-- The first n bytes of the keystream of a key and an IV, ten bytes each. This project's own order is that bit 1 of both is
-- bit 0 of byte 0.
unfoldable pub keystream : List ℕ → List ℕ → ℕ → List ℕ
keystream key iv n = bytes n (outputs (8 * n) (started (low key) (low iv)))
