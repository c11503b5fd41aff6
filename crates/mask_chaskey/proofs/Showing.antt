-- What the values of a stage stand for: where bits solve all gates, the rounds on values compute the rounds on numbers.
use Rattle.std.proofs.Common.{◌≡◌, ℕ, zero, suc, ◌+◌, ◌%◌, ◌^◌, ◌<◌, ◌≤◌, Bool, false, List, ◌++◌, length, map, take, drop, All, refl, sym, ap, ap₂, ◌∙◌, arith, lit<, add-one, bit_xor, slice_index, slice_set}
use Rattle.std.specs.List.{concat}
use Rattle.std.proofs.lemmas.List.{length-map, map-set, map-append, take-map, drop-map, get_or-map as get_or-in_map}
use Rattle.mask_bits.specs.Reading.{number}
use Rattle.mask_circuit.specs.Netlist.{Netlist, value_count}
use Rattle.mask_circuit.specs.Value.{xor, value_at}
use Rattle.mask_parts.specs.Tables.{part_gates, with_part}
use Rattle.mask_parts.specs.Turns.{in_turn}
use Rattle.mask_parts.specs.Words32.{xor32_results, with_sum32, sum32_results, rotated32, words_of, joined, word}
use Rattle.mask_parts.proofs.Joining.{words_of-joined}
use Rattle.mask_parts.proofs.Solving.{Solves, Solved, Solved-with_gates, Solved-Grows}
use Rattle.mask_parts.proofs.WordFitting.{value_count-with_sum32, length-sum32_results, length-rotated32}
use Rattle.mask_parts.proofs.WordPassing.{Grows-xor32, IsWord, word-at}
use Rattle.mask_parts.proofs.WordShowing.{shown, shown-xor32, shown-sum32, shown-rotated, shown-word, all_shown-lt}
use Rattle.mask_chaskey.specs.declared.doubling.End.{End}
use Rattle.mask_chaskey.specs.declared.doubling.End.TheVariants.{Whole, Short}
use Rattle.mask_chaskey.specs.Chaskey.{mixed, turned, round, permuted, permutation, doubled, last_mask}
use Rattle.mask_chaskey.specs.NamedChaskey.{four_words, doubling_steps, doubled_values, with_doubled, with_last_mask}
use Rattle.mask_chaskey.specs.Rounds.{Stage, with_word_xored, with_block_xored, with_mixed, turned_block, with_turned, with_round, with_permutation}
use Rattle.mask_chaskey.proofs.BlockNumbers.{shown-concat, concat-four_words, word_xored, joined-xored}
use Rattle.mask_chaskey.proofs.DoubledNumbers.{number-doubled}
use Rattle.mask_chaskey.proofs.Lengthening.{Lengthens-word_xored, Lengthens-mixed, Lengthens-turned, Lengthens-doubled, first_mixed, second_mixed, third_mixed, last_mixed, Lengthens-round}
use Rattle.mask_chaskey.proofs.Running.{IsFine, Runs-words_xored, Runs-mixed, Runs-first, Runs-second, Runs-third, Runs-last, Runs-rounds, length-us, length-doubled_values, Runs-doubled}

-- BLOCKS

-- the words that the values of a stage stand for, and their number
abbrev pub words_shown : List Bool → Stage → List ℕ
words_shown vs s = map (shown vs) s.block

abbrev pub block_shown : List Bool → Stage → ℕ
block_shown vs s = joined (words_shown vs s)

module _ (T : Type 0) (vs : List Bool) where
  long-at : (s : Stage) (k : ℕ) → k < 4 → IsFine T s → length (word s.block k) ≡ 32
  long-at s k inside fine = (word-at T s.draft s.block k (rw fine.long inside) fine.words).long

  shown-mixed : (i j k : ℕ) (s : Stage) → i < 4 → j < 4 → k < 32 → IsFine T s → Solved vs (with_mixed i j k s).draft
      → words_shown vs (with_mixed i j k s) ≡ mixed i j k (words_shown vs s)
  unfolding with_mixed mixed
  shown-mixed i j k s i_in j_in k_in fine solved =
      let c : Netlist = s.draft in
      let x : List ℕ = word s.block i in
      let y : List ℕ = word s.block j in
      let n : ℕ = value_count c in
      let d : Netlist = with_sum32 c x y in
      let y_long : length y ≡ 32 = long-at s j j_in fine in
      let turned_long : length (rotated32 k y) ≡ 32 = length-rotated32 k y ∙ y_long in
      let solved_sum : Solved vs d = Solved-Grows vs d _ (Grows-xor32 d (rotated32 k y) (sum32_results n)) solved in
      let sum : shown vs (sum32_results n) ≡ (shown vs x + shown vs y) % 2 ^ 32 = shown-sum32 vs c x y (long-at s i i_in fine) y_long solved_sum in
      let count : value_count d ≡ n + 185 = value_count-with_sum32 c x y in
      let made : shown vs (xor32_results (n + 185)) ≡ bit_xor (shown vs (rotated32 k y)) (shown vs (sum32_results n)) =
      rw count at (shown-xor32 vs d (rotated32 k y) (sum32_results n) turned_long (length-sum32_results n) solved) in
      map-set (shown vs) (slice_set s.block i (sum32_results n)) j (xor32_results (n + 185))
      ∙ rw (map-set (shown vs) s.block i (sum32_results n), made, shown-rotated vs k y k_in y_long, sum, shown-word vs s.block i, shown-word vs s.block j) refl

  shown-turned : (i : ℕ) (s : Stage) → i < 4 → IsFine T s → words_shown vs (with_turned i s) ≡ turned i (words_shown vs s)
  unfolding with_turned turned_block turned
  shown-turned i s inside fine =
      map-set (shown vs) s.block i _
      ∙ rw (shown-rotated vs 16 (word s.block i) (lit< tt) (long-at s i inside fine), shown-word vs s.block i) refl

  -- THE ROUNDS

  shown-round : (s : Stage) → IsFine T s → Solved vs (with_round s).draft → words_shown vs (with_round s) ≡ round (words_shown vs s)
  unfolding with_round round
  shown-round s fine solved =
      let s₁ : Stage = with_mixed 0 1 5 s in
      let solved₄ : Solved vs (last_mixed s).draft = Solved-Grows vs _ _ (Lengthens-turned 2 (last_mixed s)) solved in
      let solved₃ : Solved vs (third_mixed s).draft = Solved-Grows vs _ _ (Lengthens-mixed 2 1 7 (third_mixed s)) solved₄ in
      let solved₂ : Solved vs (second_mixed s).draft = Solved-Grows vs _ _ (Lengthens-mixed 0 3 13 (second_mixed s)) solved₃ in
      let solved₁ : Solved vs (first_mixed s).draft = Solved-Grows vs _ _ (Lengthens-mixed 2 3 8 (first_mixed s)) solved₂ in
      let solved₀ : Solved vs s₁.draft = Solved-Grows vs _ _ (Lengthens-turned 0 s₁) solved₁ in
      let fine₀ : IsFine T s₁ = (Runs-mixed T 0 1 5 s (lit< tt) (lit< tt) fine).fine in
      let first = shown-turned 0 s₁ (lit< tt) fine₀ ∙ ap (turned 0) (shown-mixed 0 1 5 s (lit< tt) (lit< tt) (lit< tt) fine solved₀) in
      let second = shown-mixed 2 3 8 (first_mixed s) (lit< tt) (lit< tt) (lit< tt) (Runs-first T s fine).fine solved₂ ∙ ap (mixed 2 3 8) first in
      let third = shown-mixed 0 3 13 (second_mixed s) (lit< tt) (lit< tt) (lit< tt) (Runs-second T s fine).fine solved₃ ∙ ap (mixed 0 3 13) second in
      let last = shown-mixed 2 1 7 (third_mixed s) (lit< tt) (lit< tt) (lit< tt) (Runs-third T s fine).fine solved₄ ∙ ap (mixed 2 1 7) third in
      shown-turned 2 (last_mixed s) (lit< tt) (Runs-last T s fine).fine ∙ ap (turned 2) last

  shown-rounds : (s : Stage) → IsFine T s → (m : ℕ) → Solved vs (in_turn (λ i. with_round) m s).draft
      → words_shown vs (in_turn (λ i. with_round) m s) ≡ in_turn (λ i. round) m (words_shown vs s)
  unfolding in_turn
  shown-rounds s fine zero solved = refl
  shown-rounds s fine (suc m) solved =
      let t : Stage = in_turn (λ i. with_round) m s in
      shown-round t (Runs-rounds T s fine m).fine solved ∙ ap round (shown-rounds s fine m (Solved-Grows vs _ _ (Lengthens-round t) solved))

  pub shown-permutation : (s : Stage) → IsFine T s → Solved vs (with_permutation s).draft → block_shown vs (with_permutation s) ≡ permutation (block_shown vs s)
  unfolding with_permutation permutation permuted
  shown-permutation s fine solved =
      let shown_long : length (words_shown vs s) ≡ 4 = length-map s.block (shown vs) ∙ fine.long in
      let back : words_of 4 (block_shown vs s) ≡ words_shown vs s = rw shown_long at (words_of-joined (words_shown vs s) (all_shown-lt T vs s.draft s.block fine.words)) in
      ap joined (shown-rounds s fine 12 solved ∙ ap (in_turn (λ i. round) 12) (sym back))

  -- A BLOCK XORED

  module _ (ys : List (List ℕ)) (s : Stage) (four : length ys ≡ 4) (all : All (IsWord T s.draft) ys) (fine : IsFine T s) where
    shown-words_xored : (m : ℕ) → m ≤ 4 → Solved vs (in_turn (with_word_xored ys) m s).draft
        → words_shown vs (in_turn (with_word_xored ys) m s) ≡ in_turn (word_xored (map (shown vs) ys)) m (words_shown vs s)
    unfolding in_turn with_word_xored
    shown-words_xored zero few solved = refl
    shown-words_xored (suc m) few solved =
        let t : Stage = in_turn (with_word_xored ys) m s in
        let t_fine : IsFine T t = (Runs-words_xored T ys s four all fine m (omega arith)).fine in
        let before = shown-words_xored m (omega arith) (Solved-Grows vs _ _ (Lengthens-word_xored ys m t) solved) in
        let y_long : length (word ys m) ≡ 32 = (word-at T s.draft ys m (rw four few) all).long in
        let made = shown-xor32 vs t.draft (word t.block m) (word ys m) (long-at t m few t_fine) y_long solved in
        map-set (shown vs) t.block m _ ∙ rw (made, shown-word vs t.block m, shown-word vs ys m, before) refl

    pub shown-block_xored : Solved vs (with_block_xored ys s).draft → block_shown vs (with_block_xored ys s) ≡ bit_xor (block_shown vs s) (joined (map (shown vs) ys))
    unfolding with_block_xored
    shown-block_xored solved =
        ap joined (shown-words_xored 4 (omega arith) solved)
        ∙ joined-xored (words_shown vs s) (map (shown vs) ys) (length-map s.block (shown vs) ∙ fine.long) (length-map ys (shown vs) ∙ four)
        (all_shown-lt T vs s.draft s.block fine.words) (all_shown-lt T vs s.draft ys all)

  -- DOUBLING

  module _ (s : Stage) (fine : IsFine T s) (solved : Solved vs (with_doubled s).draft) where
    abbrev us : List ℕ
    us = concat s.block

    abbrev n : ℕ
    n = value_count s.draft

    abbrev bits : List Bool
    bits = map (value_at vs) us

    long : length us ≡ 128
    long = length-us T s fine

    -- the three gates are solved
    gates : Solves vs n (part_gates n us doubling_steps)
    unfolding with_doubled with_part
    gates = (Solved-with_gates vs s.draft (part_gates n us doubling_steps) solved).1

    bit_of : (k : ℕ) → k < 128 → value_at vs (slice_index us k) ≡ value_at bits k
    bit_of k inside = sym (get_or-in_map (value_at vs) us k 0 false (rw long inside))

    sums : (value_at vs n ≡ xor (value_at bits 0) (value_at bits 127)) × (value_at vs (n + 1) ≡ xor (value_at bits 1) (value_at bits 127)) × (value_at vs (n + 2) ≡ xor (value_at bits 6) (value_at bits 127))
    unfolding doubling_steps
    sums = (
      gates.0 ∙ ap₂ xor (bit_of 0 (lit< tt)) (bit_of 127 (lit< tt)),
      rw (add-one n) (gates.1.0 ∙ ap₂ xor (bit_of 1 (lit< tt)) (bit_of 127 (lit< tt))),
      (let e : n + 2 ≡ suc (suc n) = omega arith in rw e (gates.1.1.0 ∙ ap₂ xor (bit_of 6 (lit< tt)) (bit_of 127 (lit< tt)))),
    )

    bits_doubled : map (value_at vs) (doubled_values n us)
        ≡ slice_set (slice_set (slice_set (drop 127 bits ++ take 127 bits) 1 (xor (value_at bits 0) (value_at bits 127))) 2 (xor (value_at bits 1) (value_at bits 127))) 7 (xor (value_at bits 6) (value_at bits 127))
    unfolding doubled_values
    bits_doubled =
        let f : ℕ → Bool = value_at vs in
        let moved : map f (drop 127 us ++ take 127 us) ≡ drop 127 bits ++ take 127 bits =
        map-append f (drop 127 us) (take 127 us) ∙ ap₂ ◌++◌ (sym (drop-map f 127 us)) (sym (take-map f 127 us)) in
        map-set f (slice_set (slice_set (drop 127 us ++ take 127 us) 1 n) 2 (n + 1)) 7 (n + 2)
        ∙ rw (map-set f (slice_set (drop 127 us ++ take 127 us) 1 n) 2 (n + 1), map-set f (drop 127 us ++ take 127 us) 1 n, moved, sums.0, sums.1, sums.2) refl

    pub shown-doubled : block_shown vs (with_doubled s) ≡ doubled (block_shown vs s)
    unfolding with_doubled
    shown-doubled =
        let made : List ℕ = doubled_values n us in
        let made_long : length made ≡ 128 = length-doubled_values n us long in
        sym (shown-concat T vs (with_doubled s).draft (four_words made) (unfold with_doubled in (Runs-doubled T s fine).fine.words))
        ∙ ap (shown vs) (concat-four_words made made_long)
        ∙ ap number bits_doubled
        ∙ number-doubled bits (length-map us (value_at vs) ∙ long)
        ∙ ap doubled (shown-concat T vs s.draft s.block fine.words)

  pub shown-last_mask : (end : End) (s : Stage) → IsFine T s → Solved vs (with_last_mask end s).draft → block_shown vs (with_last_mask end s) ≡ last_mask end (block_shown vs s)
  unfolding with_last_mask last_mask
  shown-last_mask Whole s fine solved = shown-doubled s fine solved
  shown-last_mask Short s fine solved =
      let t : Stage = with_doubled s in
      shown-doubled t (Runs-doubled T s fine).fine solved ∙ ap doubled (shown-doubled s fine (Solved-Grows vs _ _ (Lengthens-doubled t) solved))
