-- Bits in hexadecimal.
use Rattle.std.specs.Prelude.{◌≡◌, ℕ, ◌<◌, Bool, List, [], ◌∷◌, ◌++◌, length, take, All}
use Rattle.hex.specs.Hex.{encode_lower}
use Rattle.mask_bits.specs.Reading.{low, IsPadded}
use Rattle.mask_words.specs.WordTests.{Word}
use Rattle.mask_words.specs.Naming.{hex_bytes}
use Rattle.mask_inspect.specs.Checks.{FitInputs}

-- the n bits that a word names, the lowest of each byte first
abbrev pub input_bits : Word → ℕ → List Bool
input_bits word n = take n (low (hex_bytes word))

-- the word fits n inputs, and these are the n bits
pub record IsInputOf (word : Word) (n : ℕ) (bits : List Bool) : Type 0 where
  pub fit : FitInputs (hex_bytes word) n
  pub bits_are : bits ≡ input_bits word n
  pub count : length bits ≡ n

-- The printed line of some bits: bytes that begin with them, lowest first, and end with fewer than eight zeros more,
-- in lower-case hexadecimal, and a line feed.
abbrev pub IsReport : List Bool → List ℕ → Type 0
IsReport bits text =
    (bytes : List ℕ) × All (λ byte. byte < 256) bytes × IsPadded bits (low bytes) × (text ≡ encode_lower bytes ++ 10 ∷ [])
