-- A refresh, pair by pair: how far each share has come, and the wires.
use Rattle.std.proofs.Common.{◌≡◌, ◌≢◌, ℕ, suc, pred, ◌+◌, ◌-◌, ◌*◌, ◌<◌, ◌≤◌, inl, inr, List, [], ◌∷◌, length, map, get_or, set, bit_xor, refl, sym, ap, ap₂, ◌∙◌, arith, add-one}
use Rattle.std.proofs.lemmas.Bool.{lt-ltb, le-ltb}
use Rattle.std.proofs.lemmas.List.{get_or-set_same, get_or-set_other, length-set, map-set}
use Rattle.mask_circuit.specs.Ring.{words}
use Rattle.mask_circuit.specs.declared.gates.Wire.{Wire}
use Rattle.mask_circuit.specs.declared.gates.Wire.TheVariants.{Share, Fresh}
use Rattle.mask_circuit.specs.Wires.{Shares, row_wire, fresh_between, refresh_wire, Pair, pairs, joined, refresh_names}
use Rattle.mask_circuit.proofs.Places.{below_cases, length-threes}
use Rattle.mask_gadget.proofs.Pairs.{by_rows}
use Rattle.mask_gadget.proofs.Telling.{word_read}
use Rattle.mask_gadget.specs.Gadgets.{RowsDone, refreshed, update_names, update_row}
use Rattle.mask_gadget.proofs.Rows.{row_before-own, row_before-more, row_wire-sum}

-- two shares of an array with a coin, where x and y are the words that are put there
module _ {A : Type 0} (carried : A → ℕ) (n : ℕ) (parts : List A) where
  pub first_updated : (i : ℕ) (x : A) (coin : ℕ) (d : A) → length parts ≡ n → i < n → carried x ≡ bit_xor (carried (get_or parts i d)) coin →
      carried x ≡ bit_xor (get_or (map carried parts) i 0) coin
  first_updated i x coin d count lt is =
      let within : i < length parts = rw count lt in
      is ∙ ap (λ (w : ℕ). bit_xor w coin) (word_read carried parts i d within)

  pub second_updated : (i j : ℕ) (x y : A) (coin : ℕ) (d : A) → length parts ≡ n → i < j → j < n →
      carried y ≡ bit_xor (carried (get_or (set parts i x) j d)) coin → carried y ≡ bit_xor (get_or (map carried parts) j 0) coin
  second_updated i j x y coin d count low high is =
      let within : j < length (set parts i x) = rw (length-set parts i x, count) high in
      is
      ∙ ap (λ (w : ℕ). bit_xor w coin)
      (word_read carried (set parts i x) j d within
      ∙ ap (λ (ws : List ℕ). get_or ws j 0) (map-set carried parts i x)
      ∙ get_or-set_other (map carried parts) i j (carried x) 0 (λ e. omega arith))

  pub both_updated : (i j : ℕ) (x y : A) (coin : ℕ) (d d' : A) → length parts ≡ n → i < j → j < n →
      carried x ≡ bit_xor (carried (get_or parts i d)) coin → carried y ≡ bit_xor (carried (get_or (set parts i x) j d')) coin →
      map carried (set (set parts i x) j y)
      ≡ set (set (map carried parts) i (bit_xor (get_or (map carried parts) i 0) coin)) j (bit_xor (get_or (map carried parts) j 0) coin)
  both_updated i j x y coin d d' count low high first second =
      map-set carried (set parts i x) j y
      ∙ ap₂ (λ (ws : List ℕ) (w : ℕ). set ws j w)
      (map-set carried parts i x ∙ ap (set (map carried parts) i) (first_updated i x coin d count (omega arith) first))
      (second_updated i j x y coin d' count low high second)

module _ (n : ℕ) (a : Shares ℕ) (r : ℕ → ℕ → ℕ) where
  -- beside the rows before i, the pairs of i and the shares below j were taken
  pub record ColumnsDone (i j : ℕ) (parts : List ℕ) : Type 0 where
    pub count : length parts ≡ n
    pub complete : (k : ℕ) → k < i → get_or parts k 0 ≡ refreshed a r k n
    pub own : get_or parts i 0 ≡ refreshed a r i j
    pub passed : (k : ℕ) → i < k → k < j → get_or parts k 0 ≡ refreshed a r k (suc i)
    pub begun : (k : ℕ) → j ≤ k → k < n → get_or parts k 0 ≡ refreshed a r k i

  pub none_done : (parts : List ℕ) → length parts ≡ n → ((k : ℕ) → get_or parts k 0 ≡ a k) → RowsDone n a r 0 parts
  none_done parts count same = record { count = count; complete = λ k lt. absurd (omega arith); begun = λ k le lt. same k }

  -- a row begins ..
  pub row_begins : (i : ℕ) (parts : List ℕ) → i < n → RowsDone n a r i parts → ColumnsDone i (i + 1) parts
  row_begins i parts lt done = record {
    count = done.count;
    complete = done.complete;
    own = rw (add-one i) (done.begun i (omega arith) lt ∙ sym (row_before-own words (a i) (fresh_between r i) i i refl));
    passed = λ k low high. absurd (omega arith);
    begun = λ k le hk. done.begun k (omega arith) hk;
  }

  -- .. and ends
  pub row_ends : (i j : ℕ) (parts : List ℕ) → i < n → j ≡ n → ColumnsDone i j parts → RowsDone n a r (i + 1) parts
  row_ends i j parts lt e done = record {
    count = done.count;
    complete = λ k hk. elim (below_cases k i (omega arith)) [
      | inl below ↦ done.complete k below
      | inr here ↦ rw (here, ← e) done.own
    ];
    begun = λ k le hk. rw (add-one i) (done.passed k (omega arith) (omega arith));
  }

  -- the two shares of a pair with its coin
  low_share : (i j : ℕ) → i < j → bit_xor (refreshed a r i j) (r i j) ≡ refreshed a r i (suc j)
  low_share i j low =
      sym (row_before-more words (a i) (fresh_between r i) i j (omega arith) ∙ ap (bit_xor (refreshed a r i j)) (rw (lt-ltb i j low) refl))

  high_share : (i j : ℕ) → i < j → bit_xor (refreshed a r j i) (r i j) ≡ refreshed a r j (suc i)
  high_share i j low =
      sym (row_before-more words (a j) (fresh_between r j) j i (omega arith) ∙ ap (bit_xor (refreshed a r j i)) (rw (le-ltb j i (omega arith)) refl))

  -- one pair more
  pub pair_done : (i j coin : ℕ) (parts : List ℕ) → i < j → j < n → coin ≡ r i j → ColumnsDone i j parts →
      ColumnsDone i (j + 1) (set (set parts i (bit_xor (get_or parts i 0) coin)) j (bit_xor (get_or parts j 0) coin))
  pair_done i j coin parts low high coin_is done =
      let count : length parts ≡ n = done.count in
      let first : List ℕ = set parts i (bit_xor (get_or parts i 0) coin) in
      let others : (k : ℕ) → k ≢ i → k ≢ j → get_or (set first j (bit_xor (get_or parts j 0) coin)) k 0 ≡ get_or parts k 0 =
      λ k ni nj. get_or-set_other first j k (bit_xor (get_or parts j 0) coin) 0 nj ∙ get_or-set_other parts i k (bit_xor (get_or parts i 0) coin) 0 ni in
      record {
        count = simp (length-set, length-set) count;
        complete = λ k lt. others k (omega arith) (omega arith) ∙ done.complete k lt;
        own = rw (add-one j)
            (get_or-set_other first j i (bit_xor (get_or parts j 0) coin) 0 (omega arith)
            ∙ get_or-set_same parts i (bit_xor (get_or parts i 0) coin) 0 (omega arith) ∙ rw (done.own, coin_is) (low_share i j low));
        passed = λ k above below. elim (below_cases k j (omega arith)) [
          | inl before ↦ others k (omega arith) (omega arith) ∙ done.passed k above before
          | inr here ↦ rw here
              (get_or-set_same first j (bit_xor (get_or parts j 0) coin) 0 (simp length-set (omega arith))
              ∙ rw (done.begun j (omega arith) high, coin_is) (high_share i j low))
        ];
        begun = λ k le hk. others k (omega arith) (omega arith) ∙ done.begun k (omega arith) hk;
      }

  -- its wires
  pub pair_wires : (i j coin : ℕ) (parts : List ℕ) → i < j → j < n → coin ≡ r i j → ColumnsDone i j parts →
      coin ∷ bit_xor (get_or parts i 0) coin ∷ bit_xor (get_or parts j 0) coin ∷ []
      ≡ map (refresh_wire words n a r) (Fresh i j ∷ row_wire n i j ∷ row_wire n j i ∷ [])
  pair_wires i j coin parts low high coin_is done =
      let first = row_wire-sum words (refresh_wire words n a r) (a i) (fresh_between r i) n i j refl refl in
      let second = row_wire-sum words (refresh_wire words n a r) (a j) (fresh_between r j) n j i refl refl in
      rw (first, second, done.own, done.begun j (omega arith) high, coin_is, low_share i j low, high_share i j low) refl

  -- at the end each share is an output share
  pub all_done : (i : ℕ) (parts : List ℕ) → i ≡ n → 0 < n → RowsDone n a r i parts → (k : ℕ) → k < n → get_or parts k 0 ≡ refresh_wire words n a r (Share k)
  all_done i parts e some done k lt =
      let last : n ≡ suc (pred n) = omega arith in
      done.complete k (omega arith) ∙ ap (refreshed a r k) last

-- all rows are all wires
pub all_updates : (n : ℕ) (W : Wire → ℕ) (items : List ℕ) (i : ℕ) → i ≡ n →
    items ≡ map W (joined (λ k. update_row n k (n - suc k)) i) → items ≡ map W (refresh_names n)
all_updates n W items i e items_are = items_are ∙ rw (e, ← by_rows (update_names n) n) refl

-- how many wires there are: three for each pair
pub refresh_count : (n : ℕ) → length (refresh_names n) ≡ 3 * length (pairs n)
refresh_count n = length-threes (λ (p : Pair). update_names n p.0 p.1) (pairs n) (λ q. refl)
