-- The rounds of LEA on values of a circuit, with the gates in the order in which they are made.
--
-- A value is named by its number. A word is a list of 32 values, bit 0 first, and a key and a block are lists of words. Each
-- part appends its gates to a draft and says which values stand for the key and the block afterwards.
use Rattle.std.specs.Prelude.{ℕ, ◌+◌, ◌-◌, ◌%◌, List, [], ◌∷◌, length, map, slice_index, slice_set}
use Rattle.mask_circuit.specs.Netlist.{Netlist, value_count}
use Rattle.mask_parts.specs.Turns.{in_turn}
use Rattle.mask_parts.specs.Words32.{with_xor32, xor32_results, with_sum32, sum32_results, rotated32, constant32, word}
use Rattle.mask_lea.specs.Lea.{Schedule, delta, place}

-- a draft, the values that are always 0 and 1, and those that stand for the key and for the block
pub record Stage : Type 0 where
  pub draft : Netlist
  pub nought : ℕ
  pub one : ℕ
  pub key : List (List ℕ)
  pub block : List (List ℕ)

unfoldable pub stage : Netlist → ℕ → ℕ → List (List ℕ) → List (List ℕ) → Stage
stage c nought one key block = record { draft = c; nought = nought; one = one; key = key; block = block }

-- the constant of word j in round i, without gates
unfoldable pub constant_word : Schedule → ℕ → ℕ → ℕ → ℕ → List ℕ
constant_word r i j nought one = rotated32 ((i + j) % 32) (constant32 nought one (delta r i))

-- word j of round i updated
unfoldable pub with_word_updated : Schedule → ℕ → ℕ → Stage → Stage
with_word_updated r i j s =
    let at = place r i j in
    record s {
      draft = with_sum32 s.draft (word s.key at) (constant_word r i j s.nought s.one);
      key = slice_set s.key at (rotated32 (slice_index r.turns j) (sum32_results (value_count s.draft)));
    }

-- the update of the key in round i
unfoldable pub with_key_updated : Schedule → ℕ → Stage → Stage
with_key_updated r i s = in_turn (with_word_updated r i) (length r.turns) s

-- the key of round i, out of the key that it updated, without gates
unfoldable pub round_words : Schedule → ℕ → List (List ℕ) → List (List ℕ)
round_words r i key = map (λ j. word key (place r i j)) r.taken

-- two words, each xored with one of the round key, added up: 249 gates
unfoldable pub with_mixed : Netlist → List ℕ → List ℕ → List ℕ → List ℕ → Netlist
with_mixed c x k y l =
    let n = value_count c in
    with_sum32 (with_xor32 (with_xor32 c x k) y l) (xor32_results n) (xor32_results (n + 32))

unfoldable pub mixed_results : ℕ → List ℕ
mixed_results n = sum32_results (n + 64)

-- the block after a round with these six words
unfoldable pub with_block_mixed : List (List ℕ) → Stage → Stage
with_block_mixed ks s =
    let k = word ks in
    let x = word s.block in
    let n = value_count s.draft in
    record s {
      draft = with_mixed (with_mixed (with_mixed s.draft (x 0) (k 0) (x 1) (k 1)) (x 1) (k 2) (x 2) (k 3)) (x 2) (k 4) (x 3) (k 5);
      block = rotated32 9 (mixed_results n)
          ∷ (rotated32 (32 - 5) (mixed_results (n + 249))
          ∷ (rotated32 (32 - 3) (mixed_results (n + 498))
          ∷ (x 0 ∷ [])));
    }

-- round i
unfoldable pub with_round : Schedule → ℕ → Stage → Stage
with_round r i s =
    let updated = with_key_updated r i s in
    with_block_mixed (round_words r i updated.key) updated

unfoldable pub with_rounds : Schedule → Stage → Stage
with_rounds r s = in_turn (with_round r) r.rounds s
