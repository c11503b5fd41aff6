-- Inputs in a row: words that gates may take, and the bits that they stand for.
use Rattle.std.proofs.Common.{◌≡◌, ℕ, ◌+◌, ◌≤◌, Bool, List, length, map, take, drop, All, sym, ap, ◌∙◌, arith}
use Rattle.std.specs.List.{range_with_len}
use Rattle.std.proofs.lemmas.List.FromFn.{length-range_with_len}
use Rattle.mask_bits.specs.Reading.{number}
use Rattle.mask_circuit.specs.Netlist.{Netlist, only_inputs}
use Rattle.mask_circuit.specs.Value.{plain_values}
use Rattle.mask_parts.specs.Words32.{joined}
use Rattle.mask_parts.proofs.Inputs.{bits-inputs, IsSound-inputs, All-inputs}
use Rattle.mask_parts.proofs.WordPassing.{IsWord}
use Rattle.mask_parts.proofs.WordShowing.{shown}
use Rattle.mask_chaskey.specs.NamedChaskey.{four_words, block_from}
use Rattle.mask_chaskey.specs.Rounds.{stage}
use Rattle.mask_chaskey.proofs.BlockNumbers.{length-four_words, All-four_words, concat-four_words, shown-concat}
use Rattle.mask_chaskey.proofs.Running.{IsFine}

pub length-block_from : (a : ℕ) → length (block_from a) ≡ 4
unfolding block_from
length-block_from a = length-four_words _

module _ (T : Type 0) (n : ℕ) where
  abbrev inputs : Netlist
  inputs = only_inputs n

  pub words-block_from : (a : ℕ) → a + 128 ≤ n → All (IsWord T inputs) (block_from a)
  unfolding block_from
  words-block_from a within =
      All-four_words T inputs (range_with_len a 128) (length-range_with_len a 128)
      (All-inputs n T a 128 within)

  pub IsFine-inputs : (a : ℕ) → a + 128 ≤ n → IsFine T (stage inputs (block_from a))
  unfolding stage
  IsFine-inputs a within = record { sound = IsSound-inputs n T; long = length-block_from a; words = words-block_from a within }

-- the number of a block of them
pub shown-block_from : (c : Netlist) (x : List Bool) (a : ℕ) → a + 128 ≤ length x → joined (map (shown (plain_values c x)) (block_from a)) ≡ number (take 128 (drop a x))
unfolding block_from
shown-block_from c x a within =
    let vs : List Bool = plain_values c x in
    let row : List ℕ = range_with_len a 128 in
    sym (shown-concat ⊥ vs (only_inputs (a + 128)) (four_words row) (unfold block_from in words-block_from ⊥ (a + 128) a (omega arith)))
    ∙ ap (shown vs) (concat-four_words row (length-range_with_len a 128))
    ∙ ap number (bits-inputs c x a 128 within)
