-- The terms of a product, pair by pair: how far they are mixed.
use Rattle.std.proofs.Common.{◌≡◌, ◌≢◌, ℕ, suc, ◌<◌, ◌≤◌, ◌⊎◌, inl, inr, bit_xor, bit_and, refl, ◌∙◌, arith}
use Rattle.std.proofs.lemmas.Bool.{cases_lt, lt-ltb, le-ltb}
use Rattle.mask_circuit.specs.Ring.{words}
use Rattle.mask_circuit.specs.Wires.{Shares, cross}
use Rattle.mask_gadget.specs.Gadgets.{Before, Mixed}

-- two numbers are the same or not
same_or_apart : (k i : ℕ) → (k ≡ i) ⊎ (k ≢ i)
same_or_apart k i = elim (cases_lt k i) [
  | inl low ↦ inr (λ e. omega arith)
  | inr high ↦ elim (cases_lt i k) [ inl low ↦ inr (λ e. omega arith) | inr le ↦ inl (omega arith) ]
]

-- a pair that stands before the one after (i, j) is (i, j) or stands before it
earlier : (k l i j : ℕ) → Before k l i (suc j) → ((k ≡ i) × (l ≡ j)) ⊎ Before k l i j
earlier k l i j (inl low) = inr (inl low)
earlier k l i j (inr (same, le)) = elim (cases_lt l j) [ inl low ↦ inr (inr (same, low)) | inr high ↦ inl (same, omega arith) ]

later : (k l i j : ℕ) → Before k l i j → Before k l i (suc j)
later k l i j (inl low) = inl low
later k l i j (inr (same, low)) = inr (same, omega arith)

-- no pair stands between the last one of row i and the first one of the next row
next_row : (n k l i : ℕ) → k < l → l < n → Before k l (suc i) (suc (suc i)) → Before k l i n
next_row n k l i low high (inl le) = elim (cases_lt k i) [ inl less ↦ inl less | inr more ↦ inr (omega arith, high) ]
next_row n k l i low high (inr (same, le)) = absurd (omega arith)

row_passed : (n k l i : ℕ) → Before k l i n → Before k l (suc i) (suc (suc i))
row_passed n k l i (inl low) = inl (omega arith)
row_passed n k l i (inr (same, low)) = inl (omega arith)

-- the pairs of a row begin behind its own share
begun_before : (k l i j j' : ℕ) → k < l → j ≤ suc i → Before k l i j → Before k l i j'
begun_before k l i j j' low begun (inl less) = inl less
begun_before k l i j j' low begun (inr (same, less)) = absurd (omega arith)

not_before : (i j : ℕ) → Before i j i j → ⊥
not_before i j (inl less) = omega arith
not_before i j (inr (e, less)) = omega arith

module _ (n : ℕ) (a b : Shares ℕ) (r : ℕ → ℕ → ℕ) where
  -- at first all terms are products
  pub none_mixed : (term : ℕ → ℕ → ℕ) → ((k l : ℕ) → k < n → l < n → term k l ≡ bit_and (a k) (b l)) → Mixed n a b r 0 1 term
  none_mixed term products = record {
    own = λ k lt. products k k lt lt;
    upper = λ k l low high before. absurd (none k l low before);
    lower = λ k l low high before. absurd (none k l low before);
    upper_left = λ k l low high after. products k l (omega arith) high;
    lower_left = λ k l low high after. products l k high (omega arith);
  }
    where
      none : (k l : ℕ) → k < l → Before k l 0 1 → ⊥
      none k l low (inl less) = omega arith
      none k l low (inr (same, less)) = omega arith

  -- a row begins behind its own share
  pub row_begun : (i j j' : ℕ) (term : ℕ → ℕ → ℕ) → j ≤ suc i → j' ≤ suc i → Mixed n a b r i j term → Mixed n a b r i j' term
  row_begun i j j' term begun begun' mixed = record {
    own = mixed.own;
    upper = λ k l low high before. mixed.upper k l low high (begun_before k l i j' j low begun' before);
    lower = λ k l low high before. mixed.lower k l low high (begun_before k l i j' j low begun' before);
    upper_left = λ k l low high after. mixed.upper_left k l low high (λ before. after (begun_before k l i j j' low begun before));
    lower_left = λ k l low high after. mixed.lower_left k l low high (λ before. after (begun_before k l i j j' low begun before));
  }

  -- a row more
  pub row_mixed : (i : ℕ) (term : ℕ → ℕ → ℕ) → Mixed n a b r i n term → Mixed n a b r (suc i) (suc (suc i)) term
  row_mixed i term mixed = record {
    own = mixed.own;
    upper = λ k l low high before. mixed.upper k l low high (next_row n k l i low high before);
    lower = λ k l low high before. mixed.lower k l low high (next_row n k l i low high before);
    upper_left = λ k l low high after. mixed.upper_left k l low high (λ before. after (row_passed n k l i before));
    lower_left = λ k l low high after. mixed.lower_left k l low high (λ before. after (row_passed n k l i before));
  }

  -- a pair more
  pub pair_mixed : (i j : ℕ) (term term' : ℕ → ℕ → ℕ) → i < j → j < n → Mixed n a b r i j term →
      term' i j ≡ r i j → term' j i ≡ bit_xor (bit_xor (r i j) (term i j)) (term j i) →
      ((k l : ℕ) → (k ≢ i) ⊎ (l ≢ j) → (k ≢ j) ⊎ (l ≢ i) → term' k l ≡ term k l) →
      Mixed n a b r i (suc j) term'
  pair_mixed i j term term' low high mixed fresh last same = record {
    own = λ k lt. same k k (apart k) (apart_too k) ∙ mixed.own k lt;
    upper = λ k l lk lh before. upper k l lk lh (earlier k l i j before);
    lower = λ k l lk lh before. lower k l lk lh (earlier k l i j before);
    upper_left = λ k l lk lh after.
        same k l (unlike k l after) (order k l lk) ∙ mixed.upper_left k l lk lh (λ before. after (later k l i j before));
    lower_left = λ k l lk lh after.
        same l k (order_too k l lk) (swapped k l (unlike k l after)) ∙ mixed.lower_left k l lk lh (λ before. after (later k l i j before));
  }
    where
      apart : (k : ℕ) → (k ≢ i) ⊎ (k ≢ j)
      apart k = elim (same_or_apart k i) [ inl e ↦ inr (λ e'. omega arith) | inr ne ↦ inl ne ]

      apart_too : (k : ℕ) → (k ≢ j) ⊎ (k ≢ i)
      apart_too k = elim (same_or_apart k i) [ inl e ↦ inl (λ e'. omega arith) | inr ne ↦ inr ne ]

      order : (k l : ℕ) → k < l → (k ≢ j) ⊎ (l ≢ i)
      order k l lk = elim (same_or_apart k j) [ inl e ↦ inr (λ e'. omega arith) | inr ne ↦ inl ne ]

      order_too : (k l : ℕ) → k < l → (l ≢ i) ⊎ (k ≢ j)
      order_too k l lk = elim (same_or_apart k j) [ inl e ↦ inl (λ e'. omega arith) | inr ne ↦ inr ne ]

      unlike : (k l : ℕ) → (Before k l i (suc j) → ⊥) → (k ≢ i) ⊎ (l ≢ j)
      unlike k l after = elim (same_or_apart k i) [
        | inl e ↦ elim (same_or_apart l j) [ inl e' ↦ absurd (after (inr (e, omega arith))) | inr ne ↦ inr ne ]
        | inr ne ↦ inl ne
      ]

      swapped : (k l : ℕ) → (k ≢ i) ⊎ (l ≢ j) → (l ≢ j) ⊎ (k ≢ i)
      swapped k l (inl ne) = inr ne
      swapped k l (inr ne) = inl ne

      not_here : (k l : ℕ) → k < l → Before k l i j → (k ≢ i) ⊎ (l ≢ j)
      not_here k l lk (inl less) = inl (λ e. omega arith)
      not_here k l lk (inr (e, less)) = inr (λ e'. omega arith)

      upper : (k l : ℕ) → k < l → l < n → ((k ≡ i) × (l ≡ j)) ⊎ Before k l i j → term' k l ≡ cross words a b r k l
      upper k l lk lh (inl (e, e')) = rw (e, e', lt-ltb i j low) fresh
      upper k l lk lh (inr before) = same k l (not_here k l lk before) (order k l lk) ∙ mixed.upper k l lk lh before

      lower : (k l : ℕ) → k < l → l < n → ((k ≡ i) × (l ≡ j)) ⊎ Before k l i j → term' l k ≡ cross words a b r l k
      lower k l lk lh (inl (e, e')) =
          rw (e, e', le-ltb j i (omega arith))
          (last ∙ rw (mixed.upper_left i j low high (not_before i j), mixed.lower_left i j low high (not_before i j)) refl)
      lower k l lk lh (inr before) =
          same l k (order_too k l lk) (swapped k l (not_here k l lk before)) ∙ mixed.lower k l lk lh before

  -- its terms before it
  pub pair_terms : (i j : ℕ) (term : ℕ → ℕ → ℕ) → i < j → j < n → Mixed n a b r i j term → (term i j ≡ bit_and (a i) (b j)) × (term j i ≡ bit_and (a j) (b i))
  pair_terms i j term low high mixed = (mixed.upper_left i j low high (not_before i j), mixed.lower_left i j low high (not_before i j))

  -- at the end each term off the diagonal is r_ij
  pub all_mixed : (i j k l : ℕ) (term : ℕ → ℕ → ℕ) → n ≤ i → Mixed n a b r i j term → k < n → l < n → k ≢ l → term k l ≡ cross words a b r k l
  all_mixed i j k l term end mixed hk hl apart = elim (cases_lt k l) [
    | inl low ↦ mixed.upper k l low hl (inl (omega arith))
    | inr high ↦ mixed.lower l k (omega arith) hk (inl (omega arith))
  ]
