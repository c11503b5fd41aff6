-- Key lines: the shares of a key, each a list of bytes.
use Rattle.std.specs.Prelude.{◌≡◌, ℕ, zero, suc, ◌≤◌, List, [], ◌∷◌, map, length, take, drop, slice_index, slice_index_or, All}
use Rattle.mask_circuit.specs.Ring.{words}
use Rattle.mask_circuit.specs.Sharing.{unmasked}
use Rattle.mask_circuit.specs.Wires.{each}

-- how many bytes a line has: as many as the first one
abbrev pub line_length : List (List ℕ) → ℕ
line_length lines = length (slice_index_or lines 0 [])

-- 1 to 8 lines of one length, which is 1 to 64 bytes
pub record AreKeyLines (lines : List (List ℕ)) : Type 0 where
  pub some : 1 ≤ length lines
  pub few : length lines ≤ 8
  pub filled : 1 ≤ line_length lines
  pub short : line_length lines ≤ 64
  pub equal : All (λ line. length line ≡ line_length lines) lines

-- bytes in order, as so many lines of n bytes
abbrev pub lines_of : ℕ → ℕ → List ℕ → List (List ℕ)
lines_of zero n bytes = []
lines_of (suc count) n bytes = take n bytes ∷ lines_of count n (drop n bytes)

-- the key that the lines are shares of: each byte is the exclusive or of the lines' bytes at its place
abbrev pub joined : List (List ℕ) → List ℕ
joined lines = each (λ b. unmasked words (map (λ (line : List ℕ). slice_index line b) lines)) (line_length lines)
