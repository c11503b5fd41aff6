-- From stage to stage: each step keeps a stage whole, and adds so many values.
use Rattle.std.proofs.Common.{◌≡◌, ℕ, zero, suc, ◌+◌, ◌*◌, ◌<◌, ◌≤◌, true, List, ◌++◌, length, take, drop, All, refl, ◌∙◌, arith, length-append, lit<, slice_set}
use Rattle.std.specs.List.{concat}
use Rattle.std.proofs.lemmas.List.{length-set, length-take, length-drop}
use Rattle.std.proofs.lemmas.List.Elements.{All-set, All-append, All-take, All-drop, All-weaker}
use Rattle.mask_circuit.specs.Netlist.{Netlist, value_count}
use Rattle.mask_circuit.specs.Value.{value_at}
use Rattle.mask_parts.specs.Tables.{part_gates, part_usable, is_part, with_part}
use Rattle.mask_parts.specs.Turns.{in_turn}
use Rattle.mask_parts.specs.Words32.{with_xor32, xor32_results, with_sum32, sum32_results, rotated32, word}
use Rattle.mask_parts.proofs.Counting.{Counts}
use Rattle.mask_parts.proofs.Passing.{IsSound, IsReady, Passes, Passes-refl, Passes-trans, Passes-part, IsReady-part}
use Rattle.mask_parts.proofs.Turns.{RunsTo, Runs-trans, Runs-as, Runs-in_turn}
use Rattle.mask_parts.proofs.WordPassing.{IsWord, IsWord-later, Passes-xor32, word-xor32, Passes-sum32, word-sum32, IsWord-rotated, words-later, word-at}
use Rattle.mask_chaskey.specs.declared.doubling.End.{End}
use Rattle.mask_chaskey.specs.declared.doubling.End.TheVariants.{Whole, Short}
use Rattle.mask_chaskey.specs.NamedChaskey.{doubling_steps, doubled_values, with_doubled, with_last_mask}
use Rattle.mask_chaskey.specs.Rounds.{Stage, with_word_xored, with_block_xored, with_mixed, turned_block, with_turned, with_round, with_permutation}
use Rattle.mask_chaskey.proofs.BlockNumbers.{length-four_words, All-four_words, length-concat, All-concat}
use Rattle.mask_chaskey.proofs.Lengthening.{first_mixed, second_mixed, third_mixed, last_mixed}

-- the stage is sound, and its block is four words that further gates may take
pub record IsFine (T : Type 0) (s : Stage) : Type 0 where
  pub sound : IsSound T s.draft
  pub long : length s.block ≡ 4
  pub words : All (IsWord T s.draft) s.block

-- the stage t is fine too, and its draft has v values more, of which p are products and p refreshes
abbrev pub Runs : (T : Type 0) (s t : Stage) (v p : ℕ) → Type 0
Runs T s t v p = RunsTo T (λ (u : Stage). u.draft) (IsFine T) s t v p

-- n steps, each of which adds so much to a stage that came out of the first one
pub Runs-steps : (T : Type 0) (f : ℕ → Stage → Stage) (v p n : ℕ) (s : Stage) → ((i : ℕ) (t : Stage) (w q : ℕ) → i < n → Runs T s t w q → Runs T t (f i t) v p)
    → (m : ℕ) → m ≤ n → IsFine T s → Runs T s (in_turn f m s) (m * v) (m * p)
Runs-steps T = Runs-in_turn T (λ (u : Stage). u.draft) (IsFine T) (λ u fine. fine.sound)

module _ (T : Type 0) where
  -- A BLOCK XORED

  pub Runs-word_xored : (ys : List (List ℕ)) (k : ℕ) (s : Stage) → k < 4 → length ys ≡ 4 → All (IsWord T s.draft) ys → IsFine T s → Runs T s (with_word_xored ys k s) 32 0
  unfolding with_word_xored
  Runs-word_xored ys k s inside four all fine =
      let x : IsWord T s.draft (word s.block k) = word-at T s.draft s.block k (rw fine.long inside) fine.words in
      let y : IsWord T s.draft (word ys k) = word-at T s.draft ys k (rw four inside) all in
      let d : Netlist = with_xor32 s.draft (word s.block k) (word ys k) in
      let passes : Passes T s.draft d 32 0 = Passes-xor32 T s.draft (word s.block k) (word ys k) fine.sound x y in
      record {
        passes = passes;
        fine = record {
          sound = passes.sound;
          long = length-set s.block k _ ∙ fine.long;
          words = All-set (IsWord T d) s.block k _ (word-xor32 T s.draft (word s.block k) (word ys k) fine.sound x y) (words-later T s.draft d 32 0 s.block passes fine.words);
        };
      }

  pub Runs-words_xored : (ys : List (List ℕ)) (s : Stage) → length ys ≡ 4 → All (IsWord T s.draft) ys → IsFine T s → (m : ℕ) → m ≤ 4
      → Runs T s (in_turn (with_word_xored ys) m s) (m * 32) (m * 0)
  Runs-words_xored ys s four all fine m few =
      Runs-steps T (with_word_xored ys) 32 0 4 s
      (λ k t w q inside runs. Runs-word_xored ys k t inside four (words-later T s.draft t.draft w q ys runs.passes all) runs.fine) m few fine

  pub Runs-block_xored : (ys : List (List ℕ)) (s : Stage) → length ys ≡ 4 → All (IsWord T s.draft) ys → IsFine T s → Runs T s (with_block_xored ys s) 128 0
  unfolding with_block_xored
  Runs-block_xored ys s four all fine = Runs-as _ _ _ _ _ _ (omega arith) (omega arith) (Runs-words_xored ys s four all fine 4 (omega arith))

  -- A ROUND

  pub Runs-mixed : (i j k : ℕ) (s : Stage) → i < 4 → j < 4 → IsFine T s → Runs T s (with_mixed i j k s) 217 31
  unfolding with_mixed
  Runs-mixed i j k s i_in j_in fine =
      let c : Netlist = s.draft in
      let x : List ℕ = word s.block i in
      let y : List ℕ = word s.block j in
      let x_is : IsWord T c x = word-at T c s.block i (rw fine.long i_in) fine.words in
      let y_is : IsWord T c y = word-at T c s.block j (rw fine.long j_in) fine.words in
      let d : Netlist = with_sum32 c x y in
      let sum : List ℕ = sum32_results (value_count c) in
      let one : Passes T c d 185 31 = Passes-sum32 T c x y fine.sound x_is y_is in
      let sum_is : IsWord T d sum = word-sum32 T c x y fine.sound x_is y_is in
      let turned_is : IsWord T d (rotated32 k y) = IsWord-rotated T d k y (IsWord-later T c d 185 31 y one y_is) in
      let e : Netlist = with_xor32 d (rotated32 k y) sum in
      let two : Passes T d e 32 0 = Passes-xor32 T d (rotated32 k y) sum one.sound turned_is sum_is in
      let made : IsWord T e (xor32_results (value_count c + 185)) = rw one.adds.values at (word-xor32 T d (rotated32 k y) sum one.sound turned_is sum_is) in
      let both : Passes T c e 217 31 = Passes-trans T c d e 185 31 32 0 one two in
      record {
        passes = both;
        fine = record {
          sound = both.sound;
          long = length-set (slice_set s.block i sum) j _ ∙ length-set s.block i sum ∙ fine.long;
          words = All-set (IsWord T e) (slice_set s.block i sum) j _ made
              (All-set (IsWord T e) s.block i sum (IsWord-later T d e 32 0 sum two sum_is) (words-later T c e 217 31 s.block both fine.words));
        };
      }

  pub Runs-turned : (i : ℕ) (s : Stage) → i < 4 → IsFine T s → Runs T s (with_turned i s) 0 0
  unfolding with_turned turned_block
  Runs-turned i s inside fine = record {
    passes = Passes-refl T s.draft fine.sound;
    fine = record {
      sound = fine.sound;
      long = length-set s.block i _ ∙ fine.long;
      words = All-set (IsWord T s.draft) s.block i _ (IsWord-rotated T s.draft 16 _ (word-at T s.draft s.block i (rw fine.long inside) fine.words)) fine.words;
    };
  }

  pub Runs-first : (s : Stage) → IsFine T s → Runs T s (first_mixed s) 217 31
  Runs-first s fine =
      let mixed = Runs-mixed 0 1 5 s (lit< tt) (lit< tt) fine in
      Runs-trans s (with_mixed 0 1 5 s) (first_mixed s) 217 31 0 0 mixed (Runs-turned 0 (with_mixed 0 1 5 s) (lit< tt) mixed.fine)

  pub Runs-second : (s : Stage) → IsFine T s → Runs T s (second_mixed s) 434 62
  Runs-second s fine =
      let before = Runs-first s fine in
      Runs-trans s (first_mixed s) (second_mixed s) 217 31 217 31 before (Runs-mixed 2 3 8 (first_mixed s) (lit< tt) (lit< tt) before.fine)

  pub Runs-third : (s : Stage) → IsFine T s → Runs T s (third_mixed s) 651 93
  Runs-third s fine =
      let before = Runs-second s fine in
      Runs-trans s (second_mixed s) (third_mixed s) 434 62 217 31 before (Runs-mixed 0 3 13 (second_mixed s) (lit< tt) (lit< tt) before.fine)

  pub Runs-last : (s : Stage) → IsFine T s → Runs T s (last_mixed s) 868 124
  Runs-last s fine =
      let before = Runs-third s fine in
      Runs-trans s (third_mixed s) (last_mixed s) 651 93 217 31 before (Runs-mixed 2 1 7 (third_mixed s) (lit< tt) (lit< tt) before.fine)

  pub Runs-round : (s : Stage) → IsFine T s → Runs T s (with_round s) 868 124
  unfolding with_round
  Runs-round s fine =
      let before = Runs-last s fine in
      Runs-trans s (last_mixed s) (with_turned 2 (last_mixed s)) 868 124 0 0 before (Runs-turned 2 (last_mixed s) (lit< tt) before.fine)

  pub Runs-rounds : (s : Stage) → IsFine T s → (m : ℕ) → Runs T s (in_turn (λ i. with_round) m s) (m * 868) (m * 124)
  Runs-rounds s fine m = Runs-steps T (λ i. with_round) 868 124 m s (λ i t w q inside runs. Runs-round t runs.fine) m (omega arith) fine

  pub Runs-permutation : (s : Stage) → IsFine T s → Runs T s (with_permutation s) 10_416 1488
  unfolding with_permutation
  Runs-permutation s fine = Runs-as _ _ _ _ _ _ (omega arith) (omega arith) (Runs-rounds s fine 12)

-- DOUBLING

Counts-doubling : (n : ℕ) (us : List ℕ) → Counts (part_gates n us doubling_steps) 3 0
unfolding doubling_steps
Counts-doubling n us = record { gates = refl; products = refl; refreshes = refl }

pub is_part-doubling : is_part 128 doubling_steps ≡ true
unfolding doubling_steps
is_part-doubling = refl

usable : (k : ℕ) → k < 3 → value_at (part_usable doubling_steps) k ≡ true
unfolding doubling_steps
usable zero inside = refl
usable (suc zero) inside = refl
usable (suc (suc zero)) inside = refl
usable (suc (suc (suc k))) inside = absurd (omega arith)

pub length-doubled_values : (n : ℕ) (us : List ℕ) → length us ≡ 128 → length (doubled_values n us) ≡ 128
unfolding doubled_values
length-doubled_values n us long =
    length-set _ 7 (n + 2) ∙ length-set _ 2 (n + 1) ∙ length-set (drop 127 us ++ take 127 us) 1 n
    ∙ omega (arith, length-append (drop 127 us) (take 127 us), length-drop 127 us, length-take 127 us)

module _ (T : Type 0) (s : Stage) (fine : IsFine T s) where
  abbrev us : List ℕ
  us = concat s.block

  abbrev d : Netlist
  d = with_part s.draft us doubling_steps

  ready : All (IsReady T s.draft) us
  ready = All-concat T s.draft s.block fine.words

  pub length-us : length us ≡ 128
  length-us = length-concat T s.draft s.block fine.words ∙ (let four = fine.long in omega arith)

  part : is_part (length us) doubling_steps ≡ true
  part = rw length-us is_part-doubling

  passes : Passes T s.draft d 3 0
  passes = Passes-part T s.draft us doubling_steps fine.sound ready part 3 0 (Counts-doubling (value_count s.draft) us)

  -- the XORs may be taken
  made : (k : ℕ) → k < 3 → IsReady T d (value_count s.draft + k)
  made k inside = IsReady-part T s.draft us doubling_steps fine.sound ready part k (usable k inside)

  later : All (IsReady T d) us
  later = All-weaker (IsReady T s.draft) (IsReady T d) passes.kept us ready

  doubled-ready : All (IsReady T d) (doubled_values (value_count s.draft) us)
  unfolding doubled_values
  doubled-ready =
      let n : ℕ = value_count s.draft in
      let at : n + 0 ≡ n = omega arith in
      let first : IsReady T d n = rw at at (made 0 (lit< tt)) in
      All-set (IsReady T d) _ 7 (n + 2) (made 2 (lit< tt))
      (All-set (IsReady T d) _ 2 (n + 1) (made 1 (lit< tt))
      (All-set (IsReady T d) _ 1 n first
      (All-append (IsReady T d) (drop 127 us) (take 127 us) (All-drop (IsReady T d) 127 us later) (All-take (IsReady T d) 127 us later))))

  pub Runs-doubled : Runs T s (with_doubled s) 3 0
  unfolding with_doubled
  Runs-doubled = record {
    passes = passes;
    fine = record {
      sound = passes.sound;
      long = length-four_words _;
      words = All-four_words T d (doubled_values (value_count s.draft) us) (length-doubled_values _ us length-us) doubled-ready;
    };
  }

-- how many values the mask adds
abbrev pub mask_values : End → ℕ
mask_values Whole = 3
mask_values Short = 6

pub Runs-last_mask : (T : Type 0) (end : End) (s : Stage) → IsFine T s → Runs T s (with_last_mask end s) (mask_values end) 0
unfolding with_last_mask
Runs-last_mask T Whole s fine = Runs-doubled T s fine
Runs-last_mask T Short s fine =
    let once = Runs-doubled T s fine in
    Runs-trans s (with_doubled s) (with_doubled (with_doubled s)) 3 0 3 0 once (Runs-doubled T (with_doubled s) once.fine)
