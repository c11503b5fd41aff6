-- Words on drafts: which may be taken, and what the parts on two words keep.
use Rattle.std.proofs.Common.{◌≡◌, ℕ, ◌<◌, List, [], ◌++◌, length, map, All, refl, sym, ◌∙◌}
use Rattle.std.specs.List.{range_with_len}
use Rattle.std.proofs.lemmas.List.Elements.{All-append, All-get_or, All-weaker}
use Rattle.mask_circuit.specs.Netlist.{Netlist, value_count}
use Rattle.mask_parts.specs.Drafts.{Grows}
use Rattle.mask_parts.specs.Tables.{part_gates}
use Rattle.mask_parts.specs.Words32.{xor32_steps, xor32_gates, with_xor32, xor32_results, sum32_steps, sum32_gates, with_sum32, sum_place, sum32_results, rotated32, constant32, word, AreWordsOf}
use Rattle.mask_parts.proofs.Adding.{is_part-sum32, with_sum32-with_part, usable-sum32, results_from}
use Rattle.mask_parts.proofs.Counting.{Counts}
use Rattle.mask_parts.proofs.Growing.{Grows-with_gates}
use Rattle.mask_parts.proofs.Passing.{IsSound, IsReady, Passes, AreOf, AreOf-ready, ready-known, AreOf-Grows, Passes-part, All-ready-part}
use Rattle.mask_parts.proofs.WordFitting.{value_count-with_xor32, value_count-with_sum32, xor32_results-below, sum32_results-below, length-xor32_results, length-sum32_results, length-rotated32, All-rotated32, length-constant32, All-constant32}
use Rattle.mask_parts.proofs.WordParts.{length-both}
use Rattle.mask_parts.proofs.Xoring.{is_part-xor32, with_xor32-with_part, usable-xor32, xor32_results-bits}

-- WORDS

-- these are the values of a word that further gates may take
pub record IsWord (T : Type 0) (c : Netlist) (w : List ℕ) : Type 0 where
  pub long : length w ≡ 32
  pub ready : All (IsReady T c) w

pub IsWord-later : (T : Type 0) (c d : Netlist) (v p : ℕ) (w : List ℕ) → Passes T c d v p → IsWord T c w → IsWord T d w
IsWord-later T c d v p w passes is = record { long = is.long; ready = All-weaker (IsReady T c) (IsReady T d) passes.kept w is.ready }

pub words-later : (T : Type 0) (c d : Netlist) (v p : ℕ) (ws : List (List ℕ)) → Passes T c d v p → All (IsWord T c) ws → All (IsWord T d) ws
words-later T c d v p ws passes all = All-weaker (IsWord T c) (IsWord T d) (λ w is. IsWord-later T c d v p w passes is) ws all

-- word k of a list of words
pub word-at : (T : Type 0) (c : Netlist) (ws : List (List ℕ)) (k : ℕ) → k < length ws → All (IsWord T c) ws → IsWord T c (word ws k)
word-at T c ws k inside all = All-get_or (IsWord T c) ws k [] inside all

-- as calls know them
pub words-known : (c : Netlist) (ws : List (List ℕ)) → AreWordsOf c ws → All (IsWord ⊥ c) ws
words-known c ws known =
    All-weaker (λ w. (length w ≡ 32) × AreOf c w) (IsWord ⊥ c) (λ w is. record { long = is.0; ready = ready-known c w is.1 }) ws known

pub known-words : (T : Type 0) (c : Netlist) (ws : List (List ℕ)) → All (IsWord T c) ws → AreWordsOf c ws
known-words T c ws words =
    All-weaker (IsWord T c) (λ w. (length w ≡ 32) × AreOf c w) (λ w is. (is.long, AreOf-ready T c w is.ready)) ws words

pub AreOf-word : (c : Netlist) (ws : List (List ℕ)) (k : ℕ) → k < length ws → AreWordsOf c ws → AreOf c (word ws k)
AreOf-word c ws k inside known = (All-get_or (λ w. (length w ≡ 32) × AreOf c w) ws k [] inside known).1

pub AreWordsOf-Grows : (c d : Netlist) (ws : List (List ℕ)) → Grows c d → AreWordsOf c ws → AreWordsOf d ws
AreWordsOf-Grows c d ws grows known =
    All-weaker (λ w. (length w ≡ 32) × AreOf c w) (λ w. (length w ≡ 32) × AreOf d w) (λ w is. (is.0, AreOf-Grows c d w grows is.1)) ws known

-- TABLES

Counts-xor32 : (n : ℕ) (xs : List ℕ) → Counts (part_gates n xs xor32_steps) 32 0
unfolding xor32_steps
Counts-xor32 n xs = record { gates = refl; products = refl; refreshes = refl }

Counts-sum32 : (n : ℕ) (xs : List ℕ) → Counts (part_gates n xs sum32_steps) 185 31
unfolding sum32_steps
Counts-sum32 n xs = record { gates = refl; products = refl; refreshes = refl }

-- PARTS

pub Grows-xor32 : (c : Netlist) (x y : List ℕ) → Grows c (with_xor32 c x y)
unfolding with_xor32
Grows-xor32 c x y = Grows-with_gates c (xor32_gates (value_count c) x y)

pub Grows-sum32 : (c : Netlist) (x y : List ℕ) → Grows c (with_sum32 c x y)
unfolding with_sum32
Grows-sum32 c x y = Grows-with_gates c (sum32_gates (value_count c) x y)

-- their results are values of the draft
pub AreOf-xor32 : (c : Netlist) (x y : List ℕ) → AreOf (with_xor32 c x y) (xor32_results (value_count c))
AreOf-xor32 c x y = rw (value_count-with_xor32 c x y) (xor32_results-below (value_count c))

pub AreOf-sum32 : (c : Netlist) (x y : List ℕ) → AreOf (with_sum32 c x y) (sum32_results (value_count c))
AreOf-sum32 c x y = rw (value_count-with_sum32 c x y) (sum32_results-below (value_count c))

module _ (T : Type 0) (c : Netlist) (x y : List ℕ) (sound : IsSound T c) (one : IsWord T c x) (two : IsWord T c y) where
  abbrev n : ℕ
  n = value_count c

  both : All (IsReady T c) (x ++ y)
  both = All-append (IsReady T c) x y one.ready two.ready

  both_long : length (x ++ y) ≡ 64
  both_long = length-both x y one.long two.long

  pub Passes-xor32 : Passes T c (with_xor32 c x y) 32 0
  Passes-xor32 = rw (with_xor32-with_part c x y) (Passes-part T c (x ++ y) xor32_steps sound both (rw both_long is_part-xor32) 32 0 (Counts-xor32 n (x ++ y)))

  pub Passes-sum32 : Passes T c (with_sum32 c x y) 185 31
  Passes-sum32 = rw (with_sum32-with_part c x y) (Passes-part T c (x ++ y) sum32_steps sound both (rw both_long is_part-sum32) 185 31 (Counts-sum32 n (x ++ y)))

  pub word-xor32 : IsWord T (with_xor32 c x y) (xor32_results n)
  word-xor32 = record {
    long = length-xor32_results n;
    ready = rw (with_xor32-with_part c x y, sym (xor32_results-bits n))
        (All-ready-part T c (x ++ y) xor32_steps sound both (rw both_long is_part-xor32) (range_with_len 0 32) usable-xor32);
  }

  pub word-sum32 : IsWord T (with_sum32 c x y) (sum32_results n)
  word-sum32 = record {
    long = length-sum32_results n;
    ready = rw (with_sum32-with_part c x y, sym (results_from n))
        (All-ready-part T c (x ++ y) sum32_steps sound both (rw both_long is_part-sum32) (map sum_place (range_with_len 0 32)) usable-sum32);
  }

-- ROTATIONS AND CONSTANTS

pub IsWord-rotated : (T : Type 0) (c : Netlist) (k : ℕ) (w : List ℕ) → IsWord T c w → IsWord T c (rotated32 k w)
IsWord-rotated T c k w is = record { long = length-rotated32 k w ∙ is.long; ready = All-rotated32 (IsReady T c) k w is.ready }

pub IsWord-constant : (T : Type 0) (c : Netlist) (nought one a : ℕ) → IsReady T c nought → IsReady T c one → IsWord T c (constant32 nought one a)
IsWord-constant T c nought one a no_bit yes_bit =
    record { long = length-constant32 nought one a; ready = All-constant32 (IsReady T c) nought one a no_bit yes_bit }
