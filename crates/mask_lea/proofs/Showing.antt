-- What the values of a stage stand for: where bits solve all gates, the rounds on values compute the rounds on numbers.
use Rattle.std.proofs.Common.{◌≡◌, ℕ, zero, suc, ◌+◌, ◌%◌, ◌^◌, ◌<◌, Bool, true, false, List, [], ◌∷◌, length, map, All, refl, ap, ap₂, ◌∙◌, arith, lit<, bit_xor, slice_index}
use Rattle.std.proofs.Math.Nat.{mod-lt}
use Rattle.std.proofs.lemmas.List.{map-set}
use Rattle.std.proofs.lemmas.List.Elements.{All-from_recursion}
use Rattle.mask_circuit.specs.Netlist.{Netlist, value_count}
use Rattle.mask_circuit.specs.Value.{value_at}
use Rattle.mask_parts.specs.Turns.{in_turn}
use Rattle.mask_parts.specs.Words32.{with_xor32, xor32_results, sum32_results, rol32, constant32, word}
use Rattle.mask_parts.proofs.Solving.{Solved, Solved-Grows}
use Rattle.mask_parts.proofs.WordFitting.{value_count-with_xor32, length-xor32_results, length-sum32_results, length-rotated32, length-constant32}
use Rattle.mask_parts.proofs.WordNumbers.{number-constant32}
use Rattle.mask_parts.proofs.WordPassing.{Grows-sum32, Grows-xor32, IsWord, word-at}
use Rattle.mask_parts.proofs.WordShowing.{shown, shown-xor32, shown-sum32, shown-rotated, shown-word}
use Rattle.mask_lea.specs.Lea.{Schedule, State, deltas, delta, place, word_updated, key_updated, round_key, mixed, block_mixed, round, lea_words}
use Rattle.mask_lea.specs.Rounds.{Stage, constant_word, with_word_updated, with_key_updated, round_words, with_mixed, mixed_results, with_block_mixed, with_round, with_rounds}
use Rattle.mask_lea.proofs.Lengthening.{Lengthens, count-with_mixed, Grows-mixed, Lengthens-word_updated, Lengthens-block_mixed, Lengthens-round}
use Rattle.mask_lea.proofs.Running.{IsShape, IsFine, slice_index-lt, place-lt, round_words-long, All-round_words, Runs-word_updated, Runs-key_updated, Runs-round}

-- WORDS

length-constant_word : (r : Schedule) (i j nought one : ℕ) → length (constant_word r i j nought one) ≡ 32
unfolding constant_word
length-constant_word r i j nought one = length-rotated32 ((i + j) % 32) (constant32 nought one (delta r i)) ∙ length-constant32 nought one (delta r i)

length-mixed_results : (n : ℕ) → length (mixed_results n) ≡ 32
unfolding mixed_results
length-mixed_results n = length-sum32_results (n + 64)

pub shown-mixed : (vs : List Bool) (c : Netlist) (x k y l : List ℕ) → length x ≡ 32 → length k ≡ 32 → length y ≡ 32 → length l ≡ 32 → Solved vs (with_mixed c x k y l)
    → shown vs (mixed_results (value_count c)) ≡ mixed (shown vs x) (shown vs k) (shown vs y) (shown vs l)
unfolding with_mixed mixed_results mixed
shown-mixed vs c x k y l x_long k_long y_long l_long solved =
    let n : ℕ = value_count c in
    let left : Netlist = with_xor32 c x k in
    let right : Netlist = with_xor32 left y l in
    let left_count : value_count left ≡ n + 32 = value_count-with_xor32 c x k in
    let count : value_count right ≡ n + 64 = value_count-with_xor32 left y l ∙ omega arith in
    let solved_right : Solved vs right = Solved-Grows vs right _ (Grows-sum32 right _ _) solved in
    let solved_left : Solved vs left = Solved-Grows vs left right (Grows-xor32 left y l) solved_right in
    let a : shown vs (xor32_results n) ≡ bit_xor (shown vs x) (shown vs k) = shown-xor32 vs c x k x_long k_long solved_left in
    let b : shown vs (xor32_results (n + 32)) ≡ bit_xor (shown vs y) (shown vs l) =
    rw left_count at (shown-xor32 vs left y l y_long l_long solved_right) in
    rw (a, b, count) at (shown-sum32 vs right (xor32_results n) (xor32_results (n + 32)) (length-xor32_results n) (length-xor32_results (n + 32)) solved)

shown-words : (vs : List Bool) (r : Schedule) (i : ℕ) (key : List (List ℕ)) → map (shown vs) (round_words r i key) ≡ round_key r i (map (shown vs) key)
unfolding round_words round_key
shown-words vs r i key = words r.taken
  where
    words : (ks : List ℕ) → map (shown vs) (map (λ j. word key (place r i j)) ks) ≡ map (λ j. slice_index (map (shown vs) key) (place r i j)) ks
    words [] = refl
    words (j ∷ ks) = ap₂ ◌∷◌ (shown-word vs key (place r i j)) (words ks)

deltas-small : All (λ d. d < 2 ^ 32) deltas
unfolding deltas
deltas-small = All-from_recursion (λ d. d < 2 ^ 32) deltas (lit< tt, (lit< tt, (lit< tt, (lit< tt, (lit< tt, (lit< tt, (lit< tt, (lit< tt, tt))))))))

delta-lt : (r : Schedule) (i : ℕ) → delta r i < 2 ^ 32
unfolding delta
delta-lt r i = slice_index-lt (2 ^ 32) deltas (lit< tt) deltas-small (i % r.words)

shown-constant : (vs : List Bool) (r : Schedule) (i j nought one : ℕ) → value_at vs nought ≡ false → value_at vs one ≡ true
    → shown vs (constant_word r i j nought one) ≡ rol32 ((i + j) % 32) (delta r i)
unfolding constant_word
shown-constant vs r i j nought one no_bit yes_bit =
    shown-rotated vs ((i + j) % 32) (constant32 nought one (delta r i)) (mod-lt (i + j) (lit< tt)) (length-constant32 nought one (delta r i))
    ∙ ap (rol32 ((i + j) % 32)) (number-constant32 (value_at vs) nought one (delta r i) (delta-lt r i) no_bit yes_bit)

-- STAGES

-- the values of a stage stand for the bits 0 and 1, and for this key and this block
pub record Shows (vs : List Bool) (s : Stage) (t : State) : Type 0 where
  pub nought : value_at vs s.nought ≡ false
  pub one : value_at vs s.one ≡ true
  pub key : map (shown vs) s.key ≡ t.key
  pub block : map (shown vs) s.block ≡ t.block

pub Shows-word_updated : (T : Type 0) (r : Schedule) (vs : List Bool) (i j : ℕ) (s : Stage) (t : State) → IsShape r → IsFine T r 4 s → Solved vs (with_word_updated r i j s).draft
    → Shows vs s t → Shows vs (with_word_updated r i j s) (record t { key = word_updated r i j t.key })
unfolding with_word_updated word_updated
Shows-word_updated T r vs i j s t shape fine solved shows =
    let at : ℕ = place r i j in
    let x : List ℕ = word s.key at in
    let constant : List ℕ = constant_word r i j s.nought s.one in
    let n : ℕ = value_count s.draft in
    let x_long : length x ≡ 32 = (word-at T s.draft s.key at (rw fine.key_long (place-lt T r shape i j)) fine.key).long in
    let x_shown : shown vs x ≡ slice_index t.key at = shown-word vs s.key at ∙ rw shows.key refl in
    let constant_long : length constant ≡ 32 = length-constant_word r i j s.nought s.one in
    let constant_shown = shown-constant vs r i j s.nought s.one shows.nought shows.one in
    let sum : shown vs (sum32_results n) ≡ (slice_index t.key at + rol32 ((i + j) % 32) (delta r i)) % 2 ^ 32 =
    shown-sum32 vs s.draft x constant x_long constant_long solved ∙ rw (x_shown, constant_shown) refl in
    record {
      nought = shows.nought;
      one = shows.one;
      key = map-set (shown vs) s.key at _
          ∙ rw (shows.key, shown-rotated vs (slice_index r.turns j) (sum32_results n) (shape.small j) (length-sum32_results n), sum) refl;
      block = shows.block;
    }

-- the words of a block that is mixed with six words
module _ (T : Type 0) (r : Schedule) (vs : List Bool) (ks : List (List ℕ)) (s : Stage) (t : State) (six : length ks ≡ 6) (all : All (IsWord T s.draft) ks) (fine : IsFine T r 4 s) (shows : Shows vs s t) where
  abbrev k : ℕ → List ℕ
  k = word ks

  abbrev x : ℕ → List ℕ
  x = word s.block

  key_long : (i : ℕ) → i < 6 → length (k i) ≡ 32
  key_long i inside = (word-at T s.draft ks i (rw six inside) all).long

  block_long : (i : ℕ) → i < 4 → length (x i) ≡ 32
  block_long i inside = (word-at T s.draft s.block i (rw fine.block_long inside) fine.block).long

  block_shown : (i : ℕ) → shown vs (x i) ≡ slice_index t.block i
  block_shown i = shown-word vs s.block i ∙ rw shows.block refl

  -- two words of the block mixed on a longer draft
  mix : (d : Netlist) (i j : ℕ) → i < 3 → suc j < 6 → Solved vs (with_mixed d (x i) (k j) (x (suc i)) (k (suc j)))
      → shown vs (mixed_results (value_count d)) ≡ mixed (slice_index t.block i) (slice_index (map (shown vs) ks) j) (slice_index t.block (suc i)) (slice_index (map (shown vs) ks) (suc j))
  mix d i j i_in j_in solved =
      shown-mixed vs d (x i) (k j) (x (suc i)) (k (suc j)) (block_long i (omega arith)) (key_long j (omega arith)) (block_long (suc i) (omega arith)) (key_long (suc j) j_in) solved
      ∙ rw (block_shown i, shown-word vs ks j, block_shown (suc i), shown-word vs ks (suc j)) refl

  abbrev d₁ : Netlist
  d₁ = with_mixed s.draft (x 0) (k 0) (x 1) (k 1)

  abbrev d₂ : Netlist
  d₂ = with_mixed d₁ (x 1) (k 2) (x 2) (k 3)

  pub Shows-block_mixed : Solved vs (with_block_mixed ks s).draft → Shows vs (with_block_mixed ks s) (record t { block = block_mixed (map (shown vs) ks) t.block })
  unfolding with_block_mixed block_mixed
  Shows-block_mixed solved =
      let n : ℕ = value_count s.draft in
      let solved₂ : Solved vs d₂ = Solved-Grows vs d₂ _ (Grows-mixed d₂ (x 2) (k 4) (x 3) (k 5)) solved in
      let solved₁ : Solved vs d₁ = Solved-Grows vs d₁ d₂ (Grows-mixed d₁ (x 1) (k 2) (x 2) (k 3)) solved₂ in
      let count₁ : value_count d₁ ≡ n + 249 = count-with_mixed s.draft (x 0) (k 0) (x 1) (k 1) in
      let count₂ : value_count d₂ ≡ n + 498 = count-with_mixed d₁ (x 1) (k 2) (x 2) (k 3) ∙ omega arith in
      let second = rw count₁ at (mix d₁ 1 2 (lit< tt) (lit< tt) solved₂) in
      let third = rw count₂ at (mix d₂ 2 4 (lit< tt) (lit< tt) solved) in
      record {
        nought = shows.nought;
        one = shows.one;
        key = shows.key;
        block = ap₂ ◌∷◌ (shown-rotated vs 9 (mixed_results n) (lit< tt) (length-mixed_results n) ∙ ap (rol32 9) (mix s.draft 0 0 (lit< tt) (lit< tt) solved₁))
            (ap₂ ◌∷◌ (shown-rotated vs 27 (mixed_results (n + 249)) (lit< tt) (length-mixed_results (n + 249)) ∙ ap (rol32 27) second)
            (ap₂ ◌∷◌ (shown-rotated vs 29 (mixed_results (n + 498)) (lit< tt) (length-mixed_results (n + 498)) ∙ ap (rol32 29) third)
            (ap₂ ◌∷◌ (block_shown 0) refl)));
      }

-- THE ROUNDS

-- steps on stages compute steps on what they stand for, where each does
Shows-in_turn : {A : Type 0} (T : Type 0) (r : Schedule) (vs : List Bool) (R : Stage → A → Type 0) (f : ℕ → Stage → Stage) (g : ℕ → A → A)
    → ((i : ℕ) (s : Stage) → Lengthens s (f i s)) → ((i : ℕ) (s : Stage) → IsFine T r 4 s → IsFine T r 4 (f i s))
    → ((i : ℕ) (s : Stage) (a : A) → IsFine T r 4 s → Solved vs (f i s).draft → R s a → R (f i s) (g i a))
    → (n : ℕ) (s : Stage) (a : A) → IsFine T r 4 s → Solved vs (in_turn f n s).draft → R s a → IsFine T r 4 (in_turn f n s) × R (in_turn f n s) (in_turn g n a)
unfolding in_turn
Shows-in_turn T r vs R f g longer keeps step zero s a fine solved shows = (fine, shows)
Shows-in_turn T r vs R f g longer keeps step (suc n) s a fine solved shows =
    let before = Shows-in_turn T r vs R f g longer keeps step n s a fine (Solved-Grows vs _ _ (longer n (in_turn f n s)) solved) shows in
    (keeps n (in_turn f n s) before.0, step n (in_turn f n s) (in_turn g n a) before.0 solved before.1)

module _ (T : Type 0) (r : Schedule) (vs : List Bool) (shape : IsShape r) where
  Shows-key_updated : (i : ℕ) (s : Stage) (t : State) → IsFine T r 4 s → Solved vs (with_key_updated r i s).draft → Shows vs s t
      → Shows vs (with_key_updated r i s) (record t { key = key_updated r i t.key })
  unfolding with_key_updated key_updated
  Shows-key_updated i s t fine solved shows =
      (Shows-in_turn T r vs (λ u key. Shows vs u (record t { key = key })) (with_word_updated r i) (word_updated r i) (Lengthens-word_updated r i)
      (λ j u u_fine. (Runs-word_updated T r shape 4 i j u u_fine).fine)
      (λ j u key u_fine u_solved u_shows. Shows-word_updated T r vs i j u (record t { key = key }) shape u_fine u_solved u_shows)
      (length r.turns) s t.key fine solved shows).1

  Shows-round : (i : ℕ) (s : Stage) (t : State) → IsFine T r 4 s → Solved vs (with_round r i s).draft → Shows vs s t → Shows vs (with_round r i s) (round r i t)
  unfolding with_round round
  Shows-round i s t fine solved shows =
      let u : Stage = with_key_updated r i s in
      let ks : List (List ℕ) = round_words r i u.key in
      let updated = (Runs-key_updated T r shape 4 i s fine).fine in
      let u_shows = Shows-key_updated i s t fine (Solved-Grows vs _ _ (Lengthens-block_mixed ks u) solved) shows in
      let key : map (shown vs) ks ≡ round_key r i (key_updated r i t.key) = shown-words vs r i u.key ∙ ap (round_key r i) u_shows.key in
      rw key at
      (Shows-block_mixed T r vs ks u (record t { key = key_updated r i t.key }) (round_words-long T r shape i u.key)
      (All-round_words T r shape i u.draft u.key updated.key_long updated.key) updated u_shows solved)

  pub shown-rounds : (s : Stage) (key block : List ℕ) → IsFine T r 4 s → Solved vs (with_rounds r s).draft → Shows vs s (record { key = key; block = block })
      → map (shown vs) (with_rounds r s).block ≡ lea_words r key block
  unfolding with_rounds lea_words
  shown-rounds s key block fine solved shows =
      (Shows-in_turn T r vs (Shows vs) (with_round r) (round r) (Lengthens-round r) (λ i u u_fine. (Runs-round T r shape i u u_fine).fine) Shows-round
      r.rounds s (record { key = key; block = block }) fine solved shows).1.block
