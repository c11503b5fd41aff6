-- What holds of each value of a stage: how it passes through the layers.
use Rattle.std.proofs.Common.{◌≡◌, ℕ, zero, suc, ◌+◌, ◌-◌, ◌*◌, ◌<◌, ◌≤◌, Bool, true, false, List, [], ◌∷◌, ◌++◌, length, take, drop, All, arith, slice_index}
use Rattle.std.specs.List.{range_with_len}
use Rattle.std.proofs.lemmas.List.Elements.{All-nil, All-cons, All-head, All-tail, All-append, All-take, All-drop, All-map, All-weaker, All-get_or}
use Rattle.mask_bits.specs.Reading.{lowest}
use Rattle.mask_circuit.specs.Netlist.{value_count}
use Rattle.mask_parts.specs.PresentSbox.{sbox_results}
use Rattle.mask_parts.proofs.Ranges.{All-range}
use Rattle.mask_present.specs.Present.{Register}
use Rattle.mask_present.specs.Rounds.{Stage, sboxes_results, source, moved, with_stretch, not_gates, not_results, counter_values, key_added, block_substituted, block_moved, key_rotated, key_replaced, key_counted}
use Rattle.mask_present.proofs.Fitting.{Fits}
use Rattle.mask_present.proofs.Permuting.{source-lt}

pub record Holds (P : ℕ → Type 0) (s : Stage) : Type 0 where
  pub key : All P s.key
  pub block : All P s.block

pub All-sbox_results : (P : ℕ → Type 0) (n : ℕ) → P (n + 16) → P (n + 17) → P (n + 21) → P (n + 25) → All P (sbox_results n)
unfolding sbox_results
All-sbox_results P n a b c d =
    All-cons P (n + 16) ((n + 17) ∷ ((n + 21) ∷ ((n + 25) ∷ []))) a (All-cons P (n + 17) ((n + 21) ∷ ((n + 25) ∷ [])) b
    (All-cons P (n + 21) ((n + 25) ∷ []) c (All-cons P (n + 25) [] d (All-nil P))))

pub All-sboxes_results : (P : ℕ → Type 0) (m n : ℕ) → ((j : ℕ) → j < m → All P (sbox_results (n + 26 * j))) → All P (sboxes_results m n)
unfolding sboxes_results
All-sboxes_results P zero n new = All-nil P
All-sboxes_results P (suc m) n new =
    let here : n + 26 * 0 ≡ n = omega arith in
    let later : (j : ℕ) → j < m → All P (sbox_results (n + 26 + 26 * j)) =
    λ j h. let e : n + 26 * suc j ≡ n + 26 + 26 * j = omega arith in rw e at (new (suc j) (omega arith)) in
    All-append P (sbox_results n) (sboxes_results m (n + 26)) (rw here at (new 0 (omega arith))) (All-sboxes_results P m (n + 26) later)

-- the value that comes to a place
at_source : (P : ℕ → Type 0) (us : List ℕ) → length us ≡ 64 → All P us → (i : ℕ) → P (slice_index us (source i))
at_source P us long holds i = All-get_or P us (source i) 0 (let low = source-lt i in omega arith) holds

pub All-moved : (P : ℕ → Type 0) (us : List ℕ) → length us ≡ 64 → All P us → All P (moved us)
unfolding moved
All-moved P us long holds =
    All-map P (λ i. slice_index us (source i)) (range_with_len 0 64)
    (λ k d h. at_source P us long holds _)

pub All-with_stretch : (P : ℕ → Type 0) (at : ℕ) (us xs : List ℕ) → All P us → All P xs → All P (with_stretch at us xs)
unfolding with_stretch
All-with_stretch P at us xs one two =
    All-append P (take at xs) (us ++ drop (at + length us) xs) (All-take P at xs two)
    (All-append P us (drop (at + length us) xs) one (All-drop P (at + length us) xs two))

All-not_results : (P : ℕ → Type 0) (n : ℕ) (bs : List Bool) (us : List ℕ) → ((u : ℕ) → n ≤ u → u < n + length (not_gates bs us) → P u) → All P us → All P (not_results n bs us)
unfolding not_gates not_results
All-not_results P n [] us new holds = holds
All-not_results P n (b ∷ bs) [] new holds = All-nil P
All-not_results P n (true ∷ bs) (u ∷ us) new holds =
    All-cons P n (not_results (n + 1) bs us) (new n (omega arith) (omega arith))
    (All-not_results P (n + 1) bs us (λ v low high. new v (omega arith) (omega arith)) (All-tail P u us holds))
All-not_results P n (false ∷ bs) (u ∷ us) new holds =
    All-cons P u (not_results n bs us) (All-head P u us holds) (All-not_results P n bs us new (All-tail P u us holds))

-- THE LAYERS, from a draft of whose values P holds to one of whose values Q holds

module _ (P Q : ℕ → Type 0) (s : Stage) (up : (u : ℕ) → P u → Q u) (holds : Holds P s) where
  abbrev n : ℕ
  n = value_count s.draft

  pub Holds-key_added : (r : Register) → ((u : ℕ) → n ≤ u → u < n + 64 → Q u) → Holds Q (key_added r s)
  unfolding key_added
  Holds-key_added r new = record { key = All-weaker P Q up s.key holds.key; block = All-range Q n 64 new }

  pub Holds-block_substituted : All Q (sboxes_results 16 n) → Holds Q (block_substituted s)
  unfolding block_substituted
  Holds-block_substituted new = record { key = All-weaker P Q up s.key holds.key; block = new }

  pub Holds-key_replaced : (at : ℕ) → All Q (sbox_results n) → Holds Q (key_replaced s at)
  unfolding key_replaced
  Holds-key_replaced at new = record {
    key = All-with_stretch Q at (sbox_results n) s.key new (All-weaker P Q up s.key holds.key);
    block = All-weaker P Q up s.block holds.block;
  }

  pub Holds-key_counted : (r : Register) (i : ℕ) → ((u : ℕ) → n ≤ u → u < n + length (not_gates (lowest 5 i) (counter_values r s)) → Q u) → Holds Q (key_counted r i s)
  unfolding key_counted
  Holds-key_counted r i new =
      let kept : All Q s.key = All-weaker P Q up s.key holds.key in
      record {
        key = All-with_stretch Q r.counter (not_results n (lowest 5 i) (counter_values r s)) s.key
            (All-not_results Q n (lowest 5 i) (counter_values r s) new (All-take Q 5 (drop r.counter s.key) (All-drop Q r.counter s.key kept))) kept;
        block = All-weaker P Q up s.block holds.block;
      }

pub Holds-block_moved : (P : ℕ → Type 0) (r : Register) (s : Stage) → Fits r s → Holds P s → Holds P (block_moved s)
unfolding block_moved
Holds-block_moved P r s fits holds = record { key = holds.key; block = All-moved P s.block fits.block holds.block }

pub Holds-key_rotated : (P : ℕ → Type 0) (r : Register) (s : Stage) → Holds P s → Holds P (key_rotated r s)
unfolding key_rotated
Holds-key_rotated P r s holds = record {
  key = All-append P (drop (r.width - 61) s.key) (take (r.width - 61) s.key) (All-drop P (r.width - 61) s.key holds.key) (All-take P (r.width - 61) s.key holds.key);
  block = holds.block;
}
