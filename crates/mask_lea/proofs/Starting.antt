-- The stage that the rounds begin with: it's whole, and its values are the input bits.
use Rattle.std.proofs.Common.{◌≡◌, ℕ, zero, suc, ◌+◌, ◌*◌, ◌-◌, ◌<◌, ◌≤◌, Bool, List, ◌∷◌, length, map, take, drop, All, refl, sym, ap, ap₂, ◌∙◌, arith}
use Rattle.std.specs.List.{range_with_len}
use Rattle.std.proofs.lemmas.List.{length-drop, length-take-le, take-take, drop-take, drop-drop}
use Rattle.std.proofs.lemmas.List.FromFn.{length-range_with_len}
use Rattle.std.proofs.lemmas.List.Elements.{All-nil, All-cons}
use Rattle.mask_bits.specs.Reading.{number}
use Rattle.mask_circuit.specs.Netlist.{Netlist}
use Rattle.mask_circuit.specs.Value.{plain_values}
use Rattle.mask_parts.specs.Words32.{words_of}
use Rattle.mask_parts.proofs.Inputs.{bits-inputs, IsSound-constants, IsReady-input, IsReady-nought, IsReady-one}
use Rattle.mask_parts.proofs.NumberParts.{number-take, number-drop}
use Rattle.mask_parts.proofs.Passing.{IsReady}
use Rattle.mask_parts.proofs.Ranges.{All-range}
use Rattle.mask_parts.proofs.WordPassing.{IsWord}
use Rattle.mask_parts.proofs.WordShowing.{shown}
use Rattle.mask_lea.specs.Lea.{Schedule}
use Rattle.mask_lea.specs.NamedLea.{width, words_from, start}
use Rattle.mask_lea.proofs.Running.{IsFine}

-- ROWS OF VALUES

pub All-words_from : (T : Type 0) (c : Netlist) (a n : ℕ) → ((u : ℕ) → a ≤ u → u < a + 32 * n → IsReady T c u) → All (IsWord T c) (words_from a n)
unfolding words_from
All-words_from T c a zero ready = All-nil (IsWord T c)
All-words_from T c a (suc n) ready =
    All-cons (IsWord T c) (range_with_len a 32) (words_from (a + 32) n)
    (record { long = length-range_with_len a 32; ready = All-range (IsReady T c) a 32 (λ u low high. ready u low (omega arith)) })
    (All-words_from T c (a + 32) n (λ u low high. ready u (omega arith) (omega arith)))

pub length-words_from : (a n : ℕ) → length (words_from a n) ≡ n
unfolding words_from
length-words_from a zero = refl
length-words_from a (suc n) = ap suc (length-words_from (a + 32) n)

-- THE START

pub IsFine-start : (T : Type 0) (r : Schedule) → IsFine T r 4 (start r)
unfolding start
IsFine-start T r =
    let n : ℕ = width r + 256 in
    record {
      sound = IsSound-constants n T;
      nought = IsReady-nought n T;
      one = IsReady-one n T;
      key_long = length-words_from 0 r.words;
      key = All-words_from T _ 0 r.words (λ u low high. IsReady-input n T u (omega arith));
      block_long = length-words_from (width r) 4;
      block = All-words_from T _ (width r) 4 (λ u low high. IsReady-input n T u (omega arith));
    }

-- INPUTS

-- the words of inputs in a row
pub words-inputs : (c : Netlist) (x : List Bool) (a n : ℕ) → a + 32 * n ≤ length x → map (shown (plain_values c x)) (words_from a n) ≡ words_of n (number (take (32 * n) (drop a x)))
unfolding words_from words_of
words-inputs c x a zero within = refl
words-inputs c x a (suc n) within =
    let bits : List Bool = take (32 * suc n) (drop a x) in
    let more : 32 * suc n ≡ 32 + 32 * n = omega arith in
    let long : length (drop a x) ≡ length x - a = length-drop a x in
    let low : take 32 bits ≡ take 32 (drop a x) = rw more (take-take 32 (32 + 32 * n) (drop a x) (omega arith)) in
    let high : drop 32 bits ≡ take (32 * n) (drop (a + 32) x) = rw more (drop-take 32 (32 * n) (drop a x) ∙ ap (take (32 * n)) (drop-drop 32 a x)) in
    let bits_long : 32 ≤ length bits = rw (length-take-le (32 * suc n) (drop a x) (omega arith)) (omega arith) in
    ap₂ ◌∷◌ (ap number (bits-inputs c x a 32 (omega arith) ∙ sym low) ∙ number-take 32 bits bits_long)
    (words-inputs c x (a + 32) n (omega arith) ∙ ap (words_of n) (ap number (sym high) ∙ number-drop 32 bits bits_long))
