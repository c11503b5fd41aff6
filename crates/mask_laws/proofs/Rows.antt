-- A mask row by row is the mask at once.
use Rattle.std.proofs.Common.{◌≡◌, ◌≢◌, ℕ, zero, suc, pred, ◌<◌, ◌≤◌, ◌⊎◌, inl, inr, Bool, true, false, cond, not, ◌&&◌, ◌==◌, nat_lt, List, Some, None, refl, ap, ap₂, sym, ◌∙◌, subst, arith, eq-eqb, ne_eqb, lt-ltb, le-ltb}
use Rattle.std.specs.declared.option.Option.{Option}
use Rattle.std.proofs.lemmas.Bool.{cases_lt, cases_order, and_right}
use Rattle.mask_circuit.specs.Value.{xor}
use Rattle.mask_circuit.specs.declared.gates.Wire.{Wire}
use Rattle.mask_circuit.specs.declared.gates.Wire.TheVariants.{Fresh, Left}
use Rattle.mask_circuit.specs.Need.{ShareSet, product_rows, refresh_need}
use Rattle.mask_circuit.specs.Shift.{Sides, product_change, is_some_of, partner, product_base, cross_change, share_change}
use Rattle.mask_circuit.specs.Ring.{bits}
use Rattle.mask_laws.specs.Masks.{Mask, is_pair_of, row_by_row, MasksAtOnce}
use Rattle.mask_laws.proofs.Bits.{xor-false, xor_comm, xor_assoc, and-true, or-false}
use Rattle.mask_laws.proofs.Flips.{flip, flip-to_demanded}
use Rattle.mask_laws.proofs.Sums.{row_sum-same}

-- PAIRS

-- the pairs of row k are those of its partner
pair_of-first : (k j : ℕ) (o : Option ℕ) → k ≢ j → is_pair_of k o k j ≡ is_some_of o j
pair_of-first k j None ne = refl
pair_of-first k j (Some p) ne = rw (eq-eqb k k refl, ne_eqb k j ne, and_right (p == k) false refl) (or-false (p == j))

pair_of-second : (k i : ℕ) (o : Option ℕ) → k ≢ i → is_pair_of k o i k ≡ is_some_of o i
pair_of-second k i None ne = refl
pair_of-second k i (Some p) ne = rw (ne_eqb k i ne, eq-eqb k k refl) (and-true (p == i))

pair_of-other : (k i j : ℕ) (o : Option ℕ) → k ≢ i → k ≢ j → is_pair_of k o i j ≡ false
pair_of-other k i j None one two = refl
pair_of-other k i j (Some p) one two = rw (ne_eqb k i one, ne_eqb k j two) (and_right (p == i) false refl)

-- another number is below k + 1 just where it is below k
below-same : (i k : ℕ) → i ≢ k → nat_lt i (suc k) ≡ nat_lt i k
below-same i k ne = elim (cases_lt i k) [
  | inl lt ↦ lt-ltb i (suc k) (omega arith) ∙ sym (lt-ltb i k lt)
  | inr le ↦ le-ltb i (suc k) (omega arith) ∙ sym (le-ltb i k le)
]

-- ROWS

-- Rows of O outside T move where they change under the mask so far. Whether row k changes depends on the mask at its own
-- pairs alone.
module _ (n : ℕ) (wire : ℕ → ℕ → Wire) (Q : List Wire) (T O : ShareSet) (base : Mask) (change : Mask → ℕ → Bool)
    (own_pairs : (mask : Mask) (k : ℕ) → k < n → ((j : ℕ) → j < n → j ≢ k → (mask k j ≡ base k j) × (mask j k ≡ base j k)) → change mask k ≡ change base k) where
  abbrev moves : Mask → ℕ → Bool
  moves mask i = O i && not (T i) && change mask i

  abbrev after : ℕ → Mask
  after = row_by_row base moves (partner n wire Q T O)

  -- the flip of rows i and j for row i, at once
  abbrev flip_for : ℕ → ℕ → Bool
  flip_for = flip n wire Q T O (change base)

  -- the mask after the rows below k, at once
  abbrev at_once : ℕ → Mask
  at_once k i j = xor (base i j) (xor (nat_lt i k && flip_for i j) (nat_lt j k && flip_for j i))

  -- a demanded row that isn't taken yet has its pairs as they were
  untaken : (k j : ℕ) → O k ≡ true → (at_once k k j ≡ base k j) × (at_once k j k ≡ base j k)
  untaken k j demanded =
      let first = le-ltb k k (omega arith) in
      let none = and_right (nat_lt j k) (flip_for j k) (flip-to_demanded n wire Q T O (change base) k j demanded) in
      (rw (first, none) (xor-false (base k j)), rw (first, none) (xor-false (base j k)))

  -- so it moves as it does under the base
  moves-same : (k : ℕ) → k < n → ((i j : ℕ) → i ≢ j → after k i j ≡ at_once k i j) → moves (after k) k ≡ moves base k
  moves-same k lt up = go (O k) refl
    where
      kept : (j : ℕ) → O k ≡ true → j ≢ k → (after k k j ≡ base k j) × (after k j k ≡ base j k)
      kept j is ne = (up k j (λ e. ne (sym e)) ∙ (untaken k j is).0, up j k ne ∙ (untaken k j is).1)

      go : (b : Bool) → O k ≡ b → (b && not (T k) && change (after k) k) ≡ (b && not (T k) && change base k)
      go false is = refl
      go true is = ap (λ c. not (T k) && c) (own_pairs (after k) k lt (λ j within ne. kept j is ne))

  -- one more row: what it adds to its own pairs, first in the pair or second ..
  adds_first : (k j : ℕ) → k ≢ j → xor (at_once k k j) (moves base k && is_pair_of k (partner n wire Q T O k) k j) ≡ at_once (suc k) k j
  adds_first k j ne =
      rw (le-ltb k k (omega arith), lt-ltb k (suc k) (omega arith), below-same j k (λ e. ne (sym e)), pair_of-first k j (partner n wire Q T O k) ne)
      (xor_assoc (base k j) (nat_lt j k && flip_for j k) (flip_for k j) ∙ ap (xor (base k j)) (xor_comm (nat_lt j k && flip_for j k) (flip_for k j)))

  adds_second : (k i : ℕ) → k ≢ i → xor (at_once k i k) (moves base k && is_pair_of k (partner n wire Q T O k) i k) ≡ at_once (suc k) i k
  adds_second k i ne =
      rw (
        le-ltb k k (omega arith),
        lt-ltb k (suc k) (omega arith),
        below-same i k (λ e. ne (sym e)),
        pair_of-second k i (partner n wire Q T O k) ne,
        xor-false (nat_lt i k && flip_for i k),
      ) (xor_assoc (base i k) (nat_lt i k && flip_for i k) (flip_for k i))

  -- .. and nothing to others
  adds_none : (k i j : ℕ) → k ≢ i → k ≢ j → xor (at_once k i j) (moves base k && is_pair_of k (partner n wire Q T O k) i j) ≡ at_once (suc k) i j
  adds_none k i j one two =
      rw (
        below-same i k (λ e. one (sym e)),
        below-same j k (λ e. two (sym e)),
        pair_of-other k i j (partner n wire Q T O k) one two,
        and_right (moves base k) false refl,
      ) (xor-false (at_once k i j))

  -- so the mask so far is that of the rows taken, at once
  so_far : (k : ℕ) → k ≤ n → (i j : ℕ) → i ≢ j → after k i j ≡ at_once k i j
  so_far zero le i j ne = sym (rw (le-ltb i 0 (omega arith), le-ltb j 0 (omega arith)) (xor-false (base i j)))
  so_far (suc k) le i j ne =
      ap₂ (λ (m b : Bool). xor b (m && is_pair_of k (partner n wire Q T O k) i j)) (moves-same k (omega arith) (so_far k (omega arith))) (so_far k (omega arith) i j ne)
      ∙ go (cases_order k i) (cases_order k j)
    where
      Adds : ℕ → ℕ → Type 0
      Adds i j = xor (at_once k i j) (moves base k && is_pair_of k (partner n wire Q T O k) i j) ≡ at_once (suc k) i j

      apart : {m : ℕ} → (k < m) ⊎ (m < k) → k ≢ m
      apart (inl lt) e = omega arith
      apart (inr gt) e = omega arith

      go : (k ≡ i) ⊎ ((k < i) ⊎ (i < k)) → (k ≡ j) ⊎ ((k < j) ⊎ (j < k)) → Adds i j
      go (inl e) other = subst (λ m. Adds m j) e (adds_first k j (λ same. ne (sym e ∙ same)))
      go (inr one) (inl e) = subst (λ m. Adds i m) e (adds_second k i (apart one))
      go (inr one) (inr two) = adds_none k i j (apart one) (apart two)

  -- with all rows taken it is the mask at once
  pub rows_at_once : (i j : ℕ) → i < j → j < n → xor (base i j) (xor (flip_for i j) (flip_for j i)) ≡ after n i j
  rows_at_once i j lt within =
      sym (so_far n (omega arith) i j (λ e. omega arith) ∙ rw (lt-ltb i n (omega arith), lt-ltb j n within) refl)

-- THE LAW

-- how an output share of a product changes depends on the mask at the pairs of its row alone
share_change-own : (n : ℕ) (Q : List Wire) (a b : Sides) (mask : Mask) (k : ℕ) → k < n →
    ((j : ℕ) → j < n → j ≢ k → (mask k j ≡ product_base Q a b k j) × (mask j k ≡ product_base Q a b j k)) →
    share_change n a b mask k ≡ share_change n a b (product_base Q a b) k
share_change-own n Q a b mask k lt same =
    row_sum-same bits (product_change a b k k) (product_change a b k k) (cross_change a b mask k) (cross_change a b (product_base Q a b) k) k (pred n) refl
    (λ j le ne. let kept = same j (omega arith) (λ e. ne (sym e)) in
    ap₂ (λ (m m' : Bool). cond (nat_lt k j) m (xor (xor m' (product_change a b j k)) (product_change a b k j))) kept.0 kept.1)

pub masks_at_once : MasksAtOnce
masks_at_once n Q O a b i j is = (
  rows_at_once n Left Q (product_rows Q) O (product_base Q a b) (share_change n a b) (share_change-own n Q a b) i j is.0 is.1,
  rows_at_once n Fresh Q (refresh_need Q) O (λ i j. false) (λ mask i. xor (a.one i) (a.two i)) (λ mask k lt same. refl) i j is.0 is.1,
)
