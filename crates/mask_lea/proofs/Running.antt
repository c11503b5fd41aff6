-- From stage to stage: each step of the rounds keeps a stage whole, and adds so many values.
use Rattle.std.proofs.Common.{◌≡◌, ℕ, zero, suc, ◌+◌, ◌*◌, ◌<◌, ◌≤◌, List, [], ◌∷◌, length, All, refl, ◌∙◌, arith, slice_index, lit<, lit≤, add-zero}
use Rattle.std.proofs.Math.Nat.{mod-lt}
use Rattle.std.proofs.lemmas.List.{length-map, length-set}
use Rattle.std.proofs.lemmas.List.Elements.{All-set, All-map, All-from_recursion}
use Rattle.mask_circuit.specs.Netlist.{Netlist, value_count}
use Rattle.mask_tasks.specs.declared.sizes.LeaSize.{LeaSize}
use Rattle.mask_tasks.specs.declared.sizes.LeaSize.TheVariants.{K128, K192, K256}
use Rattle.mask_parts.specs.Turns.{in_turn}
use Rattle.mask_parts.specs.Words32.{sum32_results, rotated32, word}
use Rattle.mask_parts.proofs.Passing.{IsSound, IsReady, Passes, Passes-refl, Passes-trans}
use Rattle.mask_parts.proofs.Turns.{RunsTo, Runs-trans, Runs-in_turn}
use Rattle.mask_parts.proofs.WordPassing.{IsWord, IsWord-later, Passes-sum32, word-sum32, IsWord-rotated, IsWord-constant, words-later, word-at}
use Rattle.mask_lea.specs.Lea.{Schedule, schedule, place}
use Rattle.mask_lea.specs.Rounds.{Stage, constant_word, with_word_updated, with_key_updated, round_words, with_mixed, mixed_results, with_block_mixed, with_round, with_rounds}
use Rattle.mask_lea.proofs.Mixing.{Passes-mixed, word-mixed}

-- SCHEDULES

-- what the laws need of a schedule
pub record IsShape (r : Schedule) : Type 0 where
  pub some : 0 < r.words
  pub few : r.words ≤ 8
  pub short : r.rounds ≤ 32
  pub six : length r.taken ≡ 6
  pub small : (j : ℕ) → slice_index r.turns j < 32

-- so it is with each entry of a list, and with what stands for those that it has not
pub slice_index-lt : (m : ℕ) (xs : List ℕ) → 0 < m → All (λ x. x < m) xs → (k : ℕ) → slice_index xs k < m
slice_index-lt m [] some all k = some
slice_index-lt m (x ∷ xs) some all zero = all 0 0 (omega arith)
slice_index-lt m (x ∷ xs) some all (suc k) = slice_index-lt m xs some (λ i d inside. all (suc i) d (omega arith)) k

turn-six : All (λ k. k < 32) (1 ∷ (3 ∷ (6 ∷ (11 ∷ (13 ∷ (17 ∷ []))))))
turn-six = All-from_recursion (λ k. k < 32) (1 ∷ (3 ∷ (6 ∷ (11 ∷ (13 ∷ (17 ∷ [])))))) (lit< tt, (lit< tt, (lit< tt, (lit< tt, (lit< tt, (lit< tt, tt))))))

turn-four : All (λ k. k < 32) (1 ∷ (3 ∷ (6 ∷ (11 ∷ []))))
turn-four = All-from_recursion (λ k. k < 32) (1 ∷ (3 ∷ (6 ∷ (11 ∷ [])))) (lit< tt, (lit< tt, (lit< tt, (lit< tt, tt))))

pub IsShape-schedule : (size : LeaSize) → IsShape (schedule size)
IsShape-schedule K128 = record { some = lit< tt; few = lit≤ tt; short = lit≤ tt; six = refl; small = slice_index-lt 32 (schedule K128).turns (lit< tt) turn-four }
IsShape-schedule K192 = record { some = lit< tt; few = lit≤ tt; short = lit≤ tt; six = refl; small = slice_index-lt 32 (schedule K192).turns (lit< tt) turn-six }
IsShape-schedule K256 = record { some = lit< tt; few = lit≤ tt; short = lit≤ tt; six = refl; small = slice_index-lt 32 (schedule K256).turns (lit< tt) turn-six }

-- The stage is sound, its constants may be taken, and its key and block are words: as many as a key has, and m.
pub record IsFine (T : Type 0) (r : Schedule) (m : ℕ) (s : Stage) : Type 0 where
  pub sound : IsSound T s.draft
  pub nought : IsReady T s.draft s.nought
  pub one : IsReady T s.draft s.one
  pub key_long : length s.key ≡ r.words
  pub key : All (IsWord T s.draft) s.key
  pub block_long : length s.block ≡ m
  pub block : All (IsWord T s.draft) s.block

-- the stage t is fine too, and its draft has v values more, of which p are products and p refreshes
abbrev pub Runs : (T : Type 0) (r : Schedule) (m : ℕ) (s t : Stage) (v p : ℕ) → Type 0
Runs T r m s t v p = RunsTo T (λ (u : Stage). u.draft) (IsFine T r m) s t v p

-- n steps, each of which adds so much
pub Runs-steps : (T : Type 0) (r : Schedule) (m : ℕ) (f : ℕ → Stage → Stage) (v p : ℕ) → ((i : ℕ) (s : Stage) → IsFine T r m s → Runs T r m s (f i s) v p)
    → (n : ℕ) (s : Stage) → IsFine T r m s → Runs T r m s (in_turn f n s) (n * v) (n * p)
Runs-steps T r m f v p step n s fine =
    Runs-in_turn T (λ (u : Stage). u.draft) (IsFine T r m) (λ u is. is.sound) f v p n s (λ i t w q inside runs. step i t runs.fine) n (omega arith) fine

-- THE STEPS

module _ (T : Type 0) (r : Schedule) (shape : IsShape r) where
  pub place-lt : (i j : ℕ) → place r i j < r.words
  unfolding place
  place-lt i j = mod-lt (length r.turns * i + j) shape.some

  pub Runs-word_updated : (m i j : ℕ) (s : Stage) → IsFine T r m s → Runs T r m s (with_word_updated r i j s) 185 31
  unfolding with_word_updated
  Runs-word_updated m i j s fine =
      let at = place r i j in
      let constant = constant_word r i j s.nought s.one in
      let x : IsWord T s.draft (word s.key at) = word-at T s.draft s.key at (rw fine.key_long (place-lt i j)) fine.key in
      let y : IsWord T s.draft constant = unfold constant_word in IsWord-rotated T s.draft _ _ (IsWord-constant T s.draft s.nought s.one _ fine.nought fine.one) in
      let passes = Passes-sum32 T s.draft (word s.key at) constant fine.sound x y in
      let d : Netlist = (with_word_updated r i j s).draft in
      let made : IsWord T d (rotated32 (slice_index r.turns j) (sum32_results (value_count s.draft))) =
      IsWord-rotated T d _ _ (word-sum32 T s.draft (word s.key at) constant fine.sound x y) in
      record {
        passes = passes;
        fine = record {
          sound = passes.sound;
          nought = passes.kept s.nought fine.nought;
          one = passes.kept s.one fine.one;
          key_long = length-set s.key at _ ∙ fine.key_long;
          key = All-set (IsWord T d) s.key at _ made (words-later T s.draft d 185 31 s.key passes fine.key);
          block_long = fine.block_long;
          block = words-later T s.draft d 185 31 s.block passes fine.block;
        };
      }

  pub Runs-key_updated : (m i : ℕ) (s : Stage) → IsFine T r m s → Runs T r m s (with_key_updated r i s) (length r.turns * 185) (length r.turns * 31)
  unfolding with_key_updated
  Runs-key_updated m i s fine = Runs-steps T r m (with_word_updated r i) 185 31 (Runs-word_updated m i) (length r.turns) s fine

  pub round_words-long : (i : ℕ) (key : List (List ℕ)) → length (round_words r i key) ≡ 6
  unfolding round_words
  round_words-long i key = length-map r.taken (λ j. word key (place r i j)) ∙ shape.six

  pub All-round_words : (i : ℕ) (c : Netlist) (key : List (List ℕ)) → length key ≡ r.words → All (IsWord T c) key → All (IsWord T c) (round_words r i key)
  unfolding round_words
  All-round_words i c key long all =
      All-map (IsWord T c) (λ j. word key (place r i j)) r.taken (λ k d inside. word-at T c key _ (rw long (place-lt i _)) all)

-- the words of a block that is mixed with six words
module _ (T : Type 0) (ks : List (List ℕ)) (r : Schedule) (s : Stage) (six : length ks ≡ 6) (all : All (IsWord T s.draft) ks) (fine : IsFine T r 4 s) where
  abbrev k : ℕ → List ℕ
  k = word ks

  abbrev x : ℕ → List ℕ
  x = word s.block

  key_word : (d : Netlist) (v p i : ℕ) → i < 6 → Passes T s.draft d v p → IsWord T d (k i)
  key_word d v p i inside passes = IsWord-later T s.draft d v p _ passes (word-at T s.draft ks i (rw six inside) all)

  block_word : (d : Netlist) (v p i : ℕ) → i < 4 → Passes T s.draft d v p → IsWord T d (x i)
  block_word d v p i inside passes = IsWord-later T s.draft d v p _ passes (word-at T s.draft s.block i (rw fine.block_long inside) fine.block)

  -- two words of the block mixed on a longer draft
  mix : (d : Netlist) (v p i j : ℕ) → i < 3 → suc j < 6 → Passes T s.draft d v p
      → Passes T d (with_mixed d (x i) (k j) (x (suc i)) (k (suc j))) 249 31
      × IsWord T (with_mixed d (x i) (k j) (x (suc i)) (k (suc j))) (mixed_results (value_count s.draft + v))
  mix d v p i j i_in j_in passes =
      let a = block_word d v p i (omega arith) passes in
      let b = key_word d v p j (omega arith) passes in
      let e = block_word d v p (suc i) (omega arith) passes in
      let f = key_word d v p (suc j) j_in passes in (
        Passes-mixed T d (x i) (k j) (x (suc i)) (k (suc j)) passes.sound a b e f,
        rw passes.adds.values at (word-mixed T d (x i) (k j) (x (suc i)) (k (suc j)) passes.sound a b e f),
      )

  abbrev d₁ : Netlist
  d₁ = with_mixed s.draft (x 0) (k 0) (x 1) (k 1)

  abbrev d₂ : Netlist
  d₂ = with_mixed d₁ (x 1) (k 2) (x 2) (k 3)

  abbrev d₃ : Netlist
  d₃ = with_mixed d₂ (x 2) (k 4) (x 3) (k 5)

  first : Passes T s.draft d₁ 249 31 × IsWord T d₁ (mixed_results (value_count s.draft))
  first = rw (add-zero (value_count s.draft)) at (mix s.draft 0 0 0 0 (lit< tt) (lit< tt) (Passes-refl T s.draft fine.sound))

  second : Passes T d₁ d₂ 249 31 × IsWord T d₂ (mixed_results (value_count s.draft + 249))
  second = mix d₁ 249 31 1 2 (lit< tt) (lit< tt) first.0

  two_mixed : Passes T s.draft d₂ 498 62
  two_mixed = Passes-trans T s.draft d₁ d₂ 249 31 249 31 first.0 second.0

  third : Passes T d₂ d₃ 249 31 × IsWord T d₃ (mixed_results (value_count s.draft + 498))
  third = mix d₂ 498 62 2 4 (lit< tt) (lit< tt) two_mixed

  all_mixed : Passes T s.draft d₃ 747 93
  all_mixed = Passes-trans T s.draft d₂ d₃ 498 62 249 31 two_mixed third.0

  mixed_block : All (IsWord T d₃) (with_block_mixed ks s).block
  unfolding with_block_mixed
  mixed_block =
      let later = Passes-trans T d₁ d₂ d₃ 249 31 249 31 second.0 third.0 in
      All-from_recursion (IsWord T d₃) (with_block_mixed ks s).block (
        IsWord-rotated T d₃ 9 _ (IsWord-later T d₁ d₃ 498 62 _ later first.1),
        (
          IsWord-rotated T d₃ 27 _ (IsWord-later T d₂ d₃ 249 31 _ third.0 second.1),
          (IsWord-rotated T d₃ 29 _ third.1, (block_word d₃ 747 93 0 (lit< tt) all_mixed, tt)),
        ),
      )

  pub Runs-block_mixed : Runs T r 4 s (with_block_mixed ks s) 747 93
  unfolding with_block_mixed
  Runs-block_mixed = record {
    passes = all_mixed;
    fine = record {
      sound = all_mixed.sound;
      nought = all_mixed.kept s.nought fine.nought;
      one = all_mixed.kept s.one fine.one;
      key_long = fine.key_long;
      key = words-later T s.draft d₃ 747 93 s.key all_mixed fine.key;
      block_long = refl;
      block = mixed_block;
    };
  }

-- THE ROUNDS

-- how many values and products a round adds
abbrev pub round_values : Schedule → ℕ
round_values r = length r.turns * 185 + 747

abbrev pub round_products : Schedule → ℕ
round_products r = length r.turns * 31 + 93

module _ (T : Type 0) (r : Schedule) (shape : IsShape r) where
  pub Runs-round : (i : ℕ) (s : Stage) → IsFine T r 4 s → Runs T r 4 s (with_round r i s) (round_values r) (round_products r)
  unfolding with_round
  Runs-round i s fine =
      let t : Stage = with_key_updated r i s in
      let updated = Runs-key_updated T r shape 4 i s fine in
      let words = All-round_words T r shape i t.draft t.key updated.fine.key_long updated.fine.key in
      Runs-trans s t _ _ _ 747 93 updated
      (Runs-block_mixed T (round_words r i t.key) r t (round_words-long T r shape i t.key) words updated.fine)

  pub Runs-some_rounds : (i : ℕ) (s : Stage) → IsFine T r 4 s → Runs T r 4 s (in_turn (with_round r) i s) (i * round_values r) (i * round_products r)
  Runs-some_rounds i s fine = Runs-steps T r 4 (with_round r) (round_values r) (round_products r) Runs-round i s fine

  pub Runs-rounds : (s : Stage) → IsFine T r 4 s → Runs T r 4 s (with_rounds r s) (r.rounds * round_values r) (r.rounds * round_products r)
  unfolding with_rounds
  Runs-rounds s fine = Runs-some_rounds r.rounds s fine
