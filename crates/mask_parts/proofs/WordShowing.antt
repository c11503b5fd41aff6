-- The number that the values of a word stand for: where bits solve the gates of a part, that of its result.
use Rattle.std.proofs.Common.{◌≡◌, ℕ, ◌+◌, ◌%◌, ◌^◌, ◌<◌, Bool, List, [], length, map, All, sym, ◌∙◌, bit_xor, slice_index}
use Rattle.std.proofs.Math.ListN.{get_or-map}
use Rattle.std.proofs.lemmas.List.{length-map}
use Rattle.std.proofs.lemmas.List.Elements.{All-map}
use Rattle.mask_bits.specs.Reading.{number}
use Rattle.mask_bits.proofs.Numbers.{number-lt}
use Rattle.mask_circuit.specs.Netlist.{Netlist, value_count}
use Rattle.mask_circuit.specs.Value.{value_at}
use Rattle.mask_parts.specs.Words32.{with_xor32, xor32_results, with_sum32, sum32_results, rotated32, rol32, word}
use Rattle.mask_parts.proofs.Adding.{sum32-solved}
use Rattle.mask_parts.proofs.Solving.{Solved, Solved-with_gates}
use Rattle.mask_parts.proofs.WordNumbers.{number-rotated32}
use Rattle.mask_parts.proofs.WordPassing.{IsWord}
use Rattle.mask_parts.proofs.Xoring.{xor32-solved}

-- the number that values stand for
abbrev pub shown : List Bool → List ℕ → ℕ
shown vs us = number (map (value_at vs) us)

module _ (vs : List Bool) (c : Netlist) (x y : List ℕ) (x_long : length x ≡ 32) (y_long : length y ≡ 32) where
  pub shown-xor32 : Solved vs (with_xor32 c x y) → shown vs (xor32_results (value_count c)) ≡ bit_xor (shown vs x) (shown vs y)
  unfolding with_xor32
  shown-xor32 solved = xor32-solved vs (value_count c) x y x_long y_long (Solved-with_gates vs c _ solved).1

  pub shown-sum32 : Solved vs (with_sum32 c x y) → shown vs (sum32_results (value_count c)) ≡ (shown vs x + shown vs y) % 2 ^ 32
  unfolding with_sum32
  shown-sum32 solved = sum32-solved vs (value_count c) x y x_long y_long (Solved-with_gates vs c _ solved).1

pub shown-rotated : (vs : List Bool) (k : ℕ) (w : List ℕ) → k < 32 → length w ≡ 32 → shown vs (rotated32 k w) ≡ rol32 k (shown vs w)
shown-rotated vs k w small long = number-rotated32 (value_at vs) k w small long

-- the number of a word in a list, and of none
pub shown-word : (vs : List Bool) (ws : List (List ℕ)) (k : ℕ) → shown vs (word ws k) ≡ slice_index (map (shown vs) ws) k
shown-word vs ws k = sym (get_or-map (shown vs) ws k [])

module _ (T : Type 0) (vs : List Bool) (c : Netlist) where
  -- a word of 32 values is a number below 2 ^ 32
  pub shown-lt : (w : List ℕ) → IsWord T c w → shown vs w < 2 ^ 32
  shown-lt w is = rw (length-map w (value_at vs) ∙ is.long) at (number-lt (map (value_at vs) w))

  pub all_shown-lt : (ws : List (List ℕ)) → All (IsWord T c) ws → All (λ a. a < 2 ^ 32) (map (shown vs) ws)
  all_shown-lt ws words = All-map (λ a. a < 2 ^ 32) (shown vs) ws (λ k d inside. shown-lt _ (words k d inside))
