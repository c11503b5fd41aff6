-- Fresh bits looked up by their pair: the fresh bit of a pair stands at the pair's number.
use Rattle.std.proofs.Common.{◌≡◌, ◌≢◌, ℕ, zero, suc, ◌+◌, ◌-◌, ◌<◌, ◌≤◌, inl, inr, Bool, true, false, cond, ◌&&◌, ◌||◌, ◌==◌, List, [], ◌∷◌, ◌++◌, length, drop, get_or, refl, sym, ap, ◌∙◌, arith, length-append, eq-eqb, ne_eqb}
use Rattle.std.proofs.lemmas.List.{get_or-drop}
use Rattle.std.proofs.lemmas.Bool.{cases_lt}
use Rattle.mask_circuit.specs.Ring.{Ring}
use Rattle.mask_circuit.specs.Wires.{Pair, each, joined, row_pairs, pairs, fresh_of}
use Rattle.mask_laws.specs.Names.{IsPair, pairs_before, pair_number}
use Rattle.mask_circuit.proofs.Places.{length-each}
use Rattle.mask_circuit.proofs.Places.{below_cases}

-- whether the pair (i, j) stands in a list
abbrev pub has_pair : ℕ → ℕ → List Pair → Bool
has_pair i j [] = false
has_pair i j (p ∷ ps) = (p.0 == i && p.1 == j) || has_pair i j ps

-- no fresh bits give none
fresh_of-nil : {X : Type 0} (R : Ring X) (ps : List Pair) (i j : ℕ) → fresh_of R ps [] i j ≡ R.nought
fresh_of-nil R [] i j = refl
fresh_of-nil R (p ∷ ps) i j = refl

-- pairs that aren't the one looked for are skipped, and so are their bits ..
fresh_of-skip : {X : Type 0} (R : Ring X) (ps qs : List Pair) (r : List X) (i j : ℕ) → has_pair i j ps ≡ false →
    fresh_of R (ps ++ qs) r i j ≡ fresh_of R qs (drop (length ps) r) i j
fresh_of-skip R [] qs r i j none = refl
fresh_of-skip R (p ∷ ps) qs [] i j none = sym (fresh_of-nil R qs i j)
fresh_of-skip R (p ∷ ps) qs (x ∷ r) i j none = go (fresh_of-skip R ps qs r i j) (p.0 == i && p.1 == j) none
  where
    go : (has_pair i j ps ≡ false → fresh_of R (ps ++ qs) r i j ≡ fresh_of R qs (drop (length ps) r) i j) →
        (here : Bool) → (here || has_pair i j ps) ≡ false → cond here x (fresh_of R (ps ++ qs) r i j) ≡ fresh_of R qs (drop (length ps) r) i j
    go up true h = cc
    go up false h = up h

-- .. and those after it aren't read
fresh_of-front : {X : Type 0} (R : Ring X) (ps qs : List Pair) (r : List X) (i j : ℕ) → has_pair i j ps ≡ true →
    fresh_of R (ps ++ qs) r i j ≡ fresh_of R ps r i j
fresh_of-front R [] qs r i j has = cc
fresh_of-front R (p ∷ ps) qs [] i j has = refl
fresh_of-front R (p ∷ ps) qs (x ∷ r) i j has = go (fresh_of-front R ps qs r i j) (p.0 == i && p.1 == j) has
  where
    go : (has_pair i j ps ≡ true → fresh_of R (ps ++ qs) r i j ≡ fresh_of R ps r i j) → (here : Bool) → (here || has_pair i j ps) ≡ true → cond here x (fresh_of R (ps ++ qs) r i j) ≡ cond here x (fresh_of R ps r i j)
    go up true h = refl
    go up false h = up h

has_pair-append : (i j : ℕ) (ps qs : List Pair) → has_pair i j (ps ++ qs) ≡ (has_pair i j ps || has_pair i j qs)
has_pair-append i j [] qs = refl
has_pair-append i j (p ∷ ps) qs = go (p.0 == i && p.1 == j) (has_pair-append i j ps qs)
  where
    go : (here : Bool) → has_pair i j (ps ++ qs) ≡ (has_pair i j ps || has_pair i j qs) → (here || has_pair i j (ps ++ qs)) ≡ ((here || has_pair i j ps) || has_pair i j qs)
    go true e = refl
    go false e = e

or-true : (b : Bool) → (b || true) ≡ true
or-true true = refl
or-true false = refl

or_true_left : (a b : Bool) → a ≡ true → (a || b) ≡ true
or_true_left true b e = refl
or_true_left false b e = cc

-- row k has no pair of another row ..
not_in_row : (i j k c : ℕ) → k ≢ i → has_pair i j (each (λ m. (k, suc k + m)) c) ≡ false
not_in_row i j k zero ne = refl
not_in_row i j k (suc c) ne =
    rw (has_pair-append i j (each (λ m. (k, suc k + m)) c) ((k, suc k + c) ∷ []), not_in_row i j k c ne, ne_eqb k i ne) refl

-- .. and row i none that comes later ..
not_in_row_yet : (i j c : ℕ) → suc i + c ≤ j → has_pair i j (each (λ m. (i, suc i + m)) c) ≡ false
not_in_row_yet i j zero le = refl
not_in_row_yet i j (suc c) le =
    rw (
      has_pair-append i j (each (λ m. (i, suc i + m)) c) ((i, suc i + c) ∷ []),
      not_in_row_yet i j c (omega arith),
      eq-eqb i i refl,
      ne_eqb (suc i + c) j (omega arith),
    ) refl

-- .. but each that it reaches
in_row : (i j c : ℕ) → i < j → j < suc i + c → has_pair i j (each (λ m. (i, suc i + m)) c) ≡ true
in_row i j zero low high = absurd (omega arith)
in_row i j (suc c) low high = elim (cases_lt j (suc i + c)) [
  | inl below ↦ rw (has_pair-append i j (each (λ m. (i, suc i + m)) c) ((i, suc i + c) ∷ []), in_row i j c low below) refl
  | inr up ↦ rw (has_pair-append i j (each (λ m. (i, suc i + m)) c) ((i, suc i + c) ∷ []), eq-eqb i i refl, eq-eqb (suc i + c) j (omega arith))
      (or-true (has_pair i j (each (λ m. (i, suc i + m)) c)))
]

-- the fresh bit of a lone pair is the first
of_one : {X : Type 0} (R : Ring X) (p : Pair) (r : List X) (i j : ℕ) → p.0 ≡ i → p.1 ≡ j → fresh_of R (p ∷ []) r i j ≡ get_or r 0 R.nought
of_one R p [] i j first second = refl
of_one R p (x ∷ r) i j first second = rw (eq-eqb p.0 i first, eq-eqb p.1 j second) refl

-- the fresh bit of a pair in its row
in_row_at : {X : Type 0} (R : Ring X) (r : List X) (i j c : ℕ) → i < j → j < suc i + c →
    fresh_of R (each (λ m. (i, suc i + m)) c) r i j ≡ get_or r (j - suc i) R.nought
in_row_at R r i j zero low high = absurd (omega arith)
in_row_at R r i j (suc c) low high = elim (cases_lt j (suc i + c)) [
  | inl below ↦ fresh_of-front R (each (λ m. (i, suc i + m)) c) ((i, suc i + c) ∷ []) r i j (in_row i j c low below) ∙ in_row_at R r i j c low below
  | inr up ↦ let place : length (each {A = Pair} (λ m. (i, suc i + m)) c) + 0 ≡ j - suc i = omega (arith, length-each {A = Pair} (λ m. (i, suc i + m)) c) in
      fresh_of-skip R (each (λ m. (i, suc i + m)) c) ((i, suc i + c) ∷ []) r i j (not_in_row_yet i j c up)
      ∙ of_one R (i, suc i + c) (drop (length (each (λ m. (i, suc i + m)) c)) r) i j refl (omega arith)
      ∙ get_or-drop (length (each (λ m. (i, suc i + m)) c)) r 0 R.nought ∙ ap (λ k. get_or r k R.nought) place
]

-- the pair in the rows before m
not_in_rows : (n m i j : ℕ) → m ≤ i → has_pair i j (joined (row_pairs n) m) ≡ false
not_in_rows n zero i j le = refl
not_in_rows n (suc m) i j le =
    rw (has_pair-append i j (joined (row_pairs n) m) (row_pairs n m), not_in_rows n m i j (omega arith)) (not_in_row i j m (n - suc m) (omega arith))

in_rows : (n m i j : ℕ) → i < m → i < j → j < n → has_pair i j (joined (row_pairs n) m) ≡ true
in_rows n zero i j lt low high = absurd (omega arith)
in_rows n (suc m) i j lt low high = elim (below_cases i m lt) [
  | inl below ↦ rw (has_pair-append i j (joined (row_pairs n) m) (row_pairs n m)) (or_true_left _ _ (in_rows n m i j below low high))
  | inr here ↦ rw (has_pair-append i j (joined (row_pairs n) m) (row_pairs n m), ← here, in_row i j (n - suc i) low (omega arith))
      (or-true (has_pair i j (joined (row_pairs n) i)))
]

-- how many pairs the rows before row m have
pub length-rows : (n m : ℕ) → length (joined (row_pairs n) m) ≡ pairs_before n m
length-rows n zero = refl
length-rows n (suc m) =
    let up = length-rows n m in
    let here = length-each {A = Pair} (λ (k : ℕ). (m, suc m + k)) (n - suc m) in
    omega (arith, length-append (joined (row_pairs n) m) (row_pairs n m))

in_rows_at : {X : Type 0} (R : Ring X) (r : List X) (n m i j : ℕ) → i < m → i < j → j < n →
    fresh_of R (joined (row_pairs n) m) r i j ≡ get_or r (pair_number n i j) R.nought
in_rows_at R r n zero i j lt low high = absurd (omega arith)
in_rows_at R r n (suc m) i j lt low high = elim (below_cases i m lt) [
  | inl below ↦ fresh_of-front R (joined (row_pairs n) m) (row_pairs n m) r i j (in_rows n m i j below low high) ∙ in_rows_at R r n m i j below low high
  | inr here ↦ rw (← here)
      (fresh_of-skip R (joined (row_pairs n) i) (row_pairs n i) r i j (not_in_rows n i i j (omega arith))
      ∙ in_row_at R (drop (length (joined (row_pairs n) i)) r) i j (n - suc i) low (omega arith)
      ∙ get_or-drop (length (joined (row_pairs n) i)) r (j - suc i) R.nought
      ∙ ap (λ k. get_or r (k + (j - suc i)) R.nought) (length-rows n i))
]

-- the fresh bit of a pair stands at the pair's number
pub fresh_of-at : {X : Type 0} (R : Ring X) (r : List X) (n i j : ℕ) → IsPair n i j → fresh_of R (pairs n) r i j ≡ get_or r (pair_number n i j) R.nought
fresh_of-at R r n i j is = in_rows_at R r n n i j (omega (arith, is.0, is.1)) is.0 is.1
