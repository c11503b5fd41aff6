-- The sum of a row, column by column, where row i has no column i.
use Rattle.std.proofs.Common.{◌≡◌, ◌≢◌, ℕ, zero, suc, pred, ◌-◌, ◌<◌, ◌≤◌, inl, inr, Bool, true, false, cond, ◌==◌, refl, sym, ap, ◌∙◌, arith, eq-eqb, ne_eqb, eqb-true}
use Rattle.std.proofs.lemmas.Bool.{cases_lt, and_parts, lt-ltb, le-ltb}
use Rattle.mask_circuit.specs.Ring.{Ring}
use Rattle.mask_circuit.specs.declared.gates.Wire.{Wire}
use Rattle.mask_circuit.specs.declared.gates.Wire.TheVariants.{Share, Partial}
use Rattle.mask_circuit.specs.Wires.{other, is_last, row_wire, row_sum}
use Rattle.mask_laws.proofs.Names.{other-apart}
use Rattle.mask_gadget.specs.Gadgets.{row_before}

-- column i adds nothing ..
pub row_before-own : {X : Type 0} (R : Ring X) (first : X) (term : ℕ → X) (i c : ℕ) → i ≡ c → row_before R first term i (suc c) ≡ row_before R first term i c
row_before-own R first term i zero e = rw (eq-eqb i 0 e) refl
row_before-own R first term i (suc c) e = rw (eq-eqb i (suc c) e) refl

-- .. and each other column its term
pub row_before-more : {X : Type 0} (R : Ring X) (first : X) (term : ℕ → X) (i c : ℕ) → i ≢ c →
    row_before R first term i (suc c) ≡ R.add (row_before R first term i c) (term c)
row_before-more R first term i zero ne = rw (ne_eqb i 0 ne) refl
row_before-more R first term i (suc c) ne = rw (ne_eqb i (suc c) ne) refl

-- the m-th partner of row i
pub other-low : (i m : ℕ) → m < i → other i m ≡ m
other-low i m lt = rw (lt-ltb m i lt) refl

pub other-high : (i m : ℕ) → i ≤ m → other i m ≡ suc m
other-high i m le = rw (le-ltb m i le) refl

-- the sum of row i after its first m partners
abbrev pub partial : {X : Type 0} → Ring X → X → (ℕ → X) → ℕ → ℕ → X
partial R first term i zero = first
partial R first term i (suc m) = row_sum R first term i (other i m)

-- it is that of the columns before the next partner
partial-before : {X : Type 0} (R : Ring X) (first : X) (term : ℕ → X) (i m : ℕ) → partial R first term i m ≡ row_before R first term i (other i m)
partial-before R first term i zero = elim (cases_lt 0 i) [
  | inl low ↦ rw (other-low i 0 low) refl
  | inr high ↦ rw (other-high i 0 high) (sym (row_before-own R first term i 0 (omega arith)))
]
partial-before R first term i (suc m) = elim (cases_lt (suc m) i) [
  | inl low ↦ rw (other-low i (suc m) low, other-low i m (omega arith)) refl
  | inr high ↦ elim (cases_lt m i) [
    | inl last ↦ rw (other-high i (suc m) high, other-low i m last) (sym (row_before-own R first term i (suc m) (omega arith)))
    | inr past ↦ rw (other-high i (suc m) high, other-high i m past) refl
  ]
]

-- one partner more
pub partial-more : {X : Type 0} (R : Ring X) (first : X) (term : ℕ → X) (i m : ℕ) →
    partial R first term i (suc m) ≡ R.add (partial R first term i m) (term (other i m))
partial-more R first term i m =
    row_before-more R first term i (other i m) (other-apart i m) ∙ ap (λ x. R.add x (term (other i m))) (sym (partial-before R first term i m))

-- after all partners it is the sum of all columns
pub partial-all : {X : Type 0} (R : Ring X) (first : X) (term : ℕ → X) (n i : ℕ) → i < suc (suc n) →
    partial R first term i (suc n) ≡ row_sum R first term i (suc n)
partial-all R first term n i lt = elim (cases_lt n i) [
  | inl last ↦ rw (other-low i n last) (sym (row_before-own R first term i (suc n) (omega arith)))
  | inr past ↦ rw (other-high i n past) refl
]

-- after its last partner a row is complete
at_last : {X : Type 0} (R : Ring X) (first : X) (term : ℕ → X) (n i k : ℕ) → (complete : Bool) → (suc k == n) ≡ complete → is_last n i k ≡ true →
    row_sum R first term i (pred n) ≡ row_sum R first term i k
at_last R first term n i k true at last = let e : pred n ≡ k = omega (arith, eqb-true (suc k) n at) in rw e refl
at_last R first term n i k false at last =
    let both = and_parts (suc i == n) (suc (suc k) == n) (rw at at last) in
    let top = eqb-true (suc i) n both.0 in
    let next = eqb-true (suc (suc k)) n both.1 in
    let e : pred n ≡ suc k = omega arith in
    let own : i ≡ suc k = omega arith in
    rw e (row_before-own R first term i (suc k) own)

-- the wire of a row and a column carries the sum so far
pub row_wire-sum : {X : Type 0} (R : Ring X) (W : Wire → X) (first : X) (term : ℕ → X) (n i k : ℕ) →
    W (Share i) ≡ row_sum R first term i (pred n) → W (Partial i k) ≡ row_sum R first term i k → W (row_wire n i k) ≡ row_sum R first term i k
row_wire-sum R W first term n i k share inner = go (is_last n i k) refl
  where
    go : (last : Bool) → is_last n i k ≡ last → W (cond last (Share i) (Partial i k)) ≡ row_sum R first term i k
    go true at = share ∙ at_last R first term n i k (suc k == n) refl at
    go false at = inner

-- the same where the number of partners is given otherwise
pub partial-end : {X : Type 0} (R : Ring X) (first : X) (term : ℕ → X) (n i m : ℕ) → 2 ≤ n → i < n → m ≡ n - 1 →
    partial R first term i m ≡ row_sum R first term i (n - 1)
partial-end R first term zero i m two lt e = absurd (omega arith)
partial-end R first term (suc zero) i m two lt e = absurd (omega arith)
partial-end R first term (suc (suc n)) i m two lt e =
    let count : suc (suc n) - 1 ≡ suc n = omega arith in
    rw (e, count) (partial-all R first term n i lt)
