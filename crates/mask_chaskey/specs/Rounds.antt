-- The rounds of Chaskey on values of a circuit, with the gates in the order in which they are made.
--
-- A value is named by its number. A word is a list of 32 values, bit 0 first, and a block is a list of four words. Each part
-- appends its gates to a draft and says which values stand for the block afterwards.
use Rattle.std.specs.Prelude.{ℕ, ◌+◌, List, slice_set}
use Rattle.mask_circuit.specs.Netlist.{Netlist, value_count}
use Rattle.mask_parts.specs.Turns.{in_turn}
use Rattle.mask_parts.specs.Words32.{with_xor32, xor32_results, with_sum32, sum32_results, rotated32, word}

-- a draft, and the values that stand for a block
pub record Stage : Type 0 where
  pub draft : Netlist
  pub block : List (List ℕ)

unfoldable pub stage : Netlist → List (List ℕ) → Stage
stage c block = record { draft = c; block = block }

-- word k of the block xored with that of another block
unfoldable pub with_word_xored : List (List ℕ) → ℕ → Stage → Stage
with_word_xored ys k s = record s {
  draft = with_xor32 s.draft (word s.block k) (word ys k);
  block = slice_set s.block k (xor32_results (value_count s.draft));
}

-- the block xored with another one
unfoldable pub with_block_xored : List (List ℕ) → Stage → Stage
with_block_xored ys s = in_turn (with_word_xored ys) 4 s

-- word i with word j added, and word j rotated left by k places and xored with that sum: 217 gates
unfoldable pub with_mixed : ℕ → ℕ → ℕ → Stage → Stage
with_mixed i j k s =
    let n = value_count s.draft in
    let sum = sum32_results n in
    record s {
      draft = with_xor32 (with_sum32 s.draft (word s.block i) (word s.block j)) (rotated32 k (word s.block j)) sum;
      block = slice_set (slice_set s.block i sum) j (xor32_results (n + 185));
    }

-- word i rotated by half its width, without gates
unfoldable pub turned_block : ℕ → List (List ℕ) → List (List ℕ)
turned_block i ws = slice_set ws i (rotated32 16 (word ws i))

unfoldable pub with_turned : ℕ → Stage → Stage
with_turned i s = record s { block = turned_block i s.block }

-- a round
unfoldable pub with_round : Stage → Stage
with_round s =
    let first = with_turned 0 (with_mixed 0 1 5 s) in
    let second = with_mixed 2 3 8 first in
    let third = with_mixed 0 3 13 second in
    with_turned 2 (with_mixed 2 1 7 third)

-- the twelve rounds
unfoldable pub with_permutation : Stage → Stage
with_permutation s = in_turn (λ i. with_round) 12 s
