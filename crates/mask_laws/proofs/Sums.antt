-- The sum of a row, column by column.
use Rattle.std.proofs.Common.{◌≡◌, ◌≢◌, ℕ, zero, suc, ◌<◌, ◌≤◌, Bool, true, false, cond, ◌&&◌, ◌==◌, ◌⊎◌, inl, inr, refl, sym, ap, ◌∙◌, arith, eq-eqb, ne_eqb, eqb-true}
use Rattle.std.proofs.lemmas.Bool.{cases_lt, eqb-false, and_right}
use Rattle.mask_circuit.specs.Value.{xor}
use Rattle.mask_circuit.specs.Ring.{Ring, bits}
use Rattle.mask_circuit.specs.Wires.{row_sum}
use Rattle.mask_laws.proofs.Bits.{xor-false, xor-xor, and-true}

-- one step of a sum, where nothing is added `here`: from equal sums by equal terms ..
step_same : {X : Type 0} (R : Ring X) (here : Bool) (sum sum' term term' : X) → sum ≡ sum' → (here ≡ false → term ≡ term') →
    cond here sum (R.add sum term) ≡ cond here sum' (R.add sum' term')
step_same R true sum sum' term term' e same = e
step_same R false sum sum' term term' e same = rw (e, same refl) refl

-- .. from a sum of two sums by the sum of their terms ..
step_xor : (here both one two term term' : Bool) → both ≡ xor one two →
    cond here both (xor both (xor term term')) ≡ xor (cond here one (xor one term)) (cond here two (xor two term'))
step_xor true both one two term term' e = e
step_xor false both one two term term' e = rw e (xor-xor one two term term')

-- .. and by a term of zero
step_none : (here sum first term : Bool) → sum ≡ first → (here ≡ false → term ≡ false) → cond here sum (xor sum term) ≡ first
step_none true sum first term e none = e
step_none false sum first term e none = rw (e, none refl) (xor-false first)

-- the same first term and the same terms give the same sum
pub row_sum-same : {X : Type 0} (R : Ring X) (first first' : X) (t t' : ℕ → X) (i k : ℕ) → first ≡ first' → ((j : ℕ) → j ≤ k → i ≢ j → t j ≡ t' j) →
    row_sum R first t i k ≡ row_sum R first' t' i k
row_sum-same R first first' t t' i zero e same =
    step_same R (i == 0) first first' (t 0) (t' 0) e (λ at. same 0 (omega arith) (eqb-false i 0 at))
row_sum-same R first first' t t' i (suc k) e same =
    step_same R (i == suc k) (row_sum R first t i k) (row_sum R first' t' i k) (t (suc k)) (t' (suc k))
    (row_sum-same R first first' t t' i k e (λ j le ne. same j (omega arith) ne)) (λ at. same (suc k) (omega arith) (eqb-false i (suc k) at))

-- sums add term by term
pub row_sum-xor : (first first' : Bool) (t t' : ℕ → Bool) (i k : ℕ) →
    row_sum bits (xor first first') (λ j. xor (t j) (t' j)) i k ≡ xor (row_sum bits first t i k) (row_sum bits first' t' i k)
row_sum-xor first first' t t' i zero = step_xor (i == 0) (xor first first') first first' (t 0) (t' 0) refl
row_sum-xor first first' t t' i (suc k) =
    step_xor (i == suc k) (row_sum bits (xor first first') (λ j. xor (t j) (t' j)) i k) (row_sum bits first t i k) (row_sum bits first' t' i k)
    (t (suc k)) (t' (suc k)) (row_sum-xor first first' t t' i k)

-- terms of zero leave the first term ..
pub row_sum-first : (first : Bool) (t : ℕ → Bool) (i k : ℕ) → ((j : ℕ) → j ≤ k → i ≢ j → t j ≡ false) →
    row_sum bits first t i k ≡ first
row_sum-first first t i zero none = step_none (i == 0) first first (t 0) refl (λ at. none 0 (omega arith) (eqb-false i 0 at))
row_sum-first first t i (suc k) none =
    step_none (i == suc k) (row_sum bits first t i k) first (t (suc k)) (row_sum-first first t i k (λ j le ne. none j (omega arith) ne))
    (λ at. none (suc k) (omega arith) (eqb-false i (suc k) at))

-- .. so a sum of nothing is 0
pub row_sum-none : (first : Bool) (t : ℕ → Bool) (i k : ℕ) → first ≡ false → ((j : ℕ) → j ≤ k → i ≢ j → t j ≡ false) →
    row_sum bits first t i k ≡ false
row_sum-none first t i k e none = row_sum-first first t i k none ∙ e

-- a term that stands in one column alone: before that column the sum is 0 ..
before_one : (x : Bool) (p i k : ℕ) → k < p → row_sum bits false (λ j. x && p == j) i k ≡ false
before_one x p i k lt =
    row_sum-none false (λ j. x && p == j) i k refl (λ j le ne. and_right x (p == j) (ne_eqb p j (omega arith)))

-- .. and from there on it is that term
one_column : (x : Bool) (p i k : ℕ) → p ≢ i → p ≤ k → row_sum bits false (λ j. x && p == j) i k ≡ x
one_column x p i zero ne le = rw (ne_eqb i 0 (omega arith), eq-eqb p 0 (omega arith)) (and-true x)
one_column x p i (suc k) ne le = go (one_column x p i k ne) (cases_lt k p) (i == suc k) refl
  where
    go : (p ≤ k → row_sum bits false (λ j. x && p == j) i k ≡ x) → (k < p) ⊎ (p ≤ k) → (here : Bool) → (i == suc k) ≡ here →
        cond here (row_sum bits false (λ j. x && p == j) i k) (xor (row_sum bits false (λ j. x && p == j) i k) (x && p == suc k)) ≡ x
    go up (inl lt) true at = absurd (ne (sym (eqb-true i (suc k) at ∙ omega arith)))
    go up (inl lt) false at = rw (before_one x p i k lt, eq-eqb p (suc k) (omega arith)) (and-true x)
    go up (inr below) true at = up below
    go up (inr below) false at = rw (up below, and_right x (p == suc k) (ne_eqb p (suc k) (omega arith))) (xor-false x)

-- a sum with one more term at a column p other than i has that term once
pub row_sum-one_more : (first x : Bool) (t : ℕ → Bool) (p i k : ℕ) → p ≢ i → p ≤ k →
    row_sum bits first (λ j. xor (t j) (x && p == j)) i k ≡ xor (row_sum bits first t i k) x
row_sum-one_more first x t p i k ne le =
    ap (λ b. row_sum bits b (λ j. xor (t j) (x && p == j)) i k) (sym (xor-false first))
    ∙ row_sum-xor first false t (λ j. x && p == j) i k
    ∙ ap (λ b. xor (row_sum bits first t i k) b) (one_column x p i k ne le)
