-- The clash of a circuit: it is unique, and the computed one is it.
use Rattle.std.proofs.Common.{◌≡◌, ℕ, zero, suc, ◌+◌, ◌<◌, ◌≤◌, ◌⊎◌, ◌↔◌, inl, inr, Bool, true, false, ◌&&◌, List, [], ◌∷◌, length, Some, None, refl, ap, ap₂, sym, ◌∙◌, subst, arith}
use Rattle.std.specs.declared.option.Option.{Option}
use Rattle.std.proofs.lemmas.Bool.{cases_lt, cases_order, and_parts, and_from, both_ways}
use Rattle.std.proofs.lemmas.Option.{none-some, same_Some}
use Rattle.mask_circuit.specs.declared.gates.Gate.{Gate}
use Rattle.mask_circuit.specs.declared.gates.Gate.TheVariants.{Zero, One, Xor, Not, And, Ref}
use Rattle.mask_circuit.specs.Netlist.{Netlist, IsWellFormed, AreGates, OperandsBelow, value_count}
use Rattle.mask_circuit.specs.Acceptance.{gate_at, Reaches, IsShared, IsAccepted, IsClash}
use Rattle.mask_circuit.specs.Shift.{least}
use Rattle.mask_laws.specs.Clashes.{Table, reach, shared_source, or_later, clash_from, clash, ClashIsUnique, ClashRefutes, ClashDecides}
use Rattle.mask_circuit.proofs.GateAt.{gate_at_within, gate_at_operands, AreGatesAt, AreGatesAt-all}
use Rattle.mask_laws.proofs.Reaching.{source_low, IsTable, table_is}

-- a clash is a product whose operands share a source
pub clash_refutes : ClashRefutes
clash_refutes c p s clash accepted = accepted p s clash.shared

-- of two lowest ones each is no higher than the other
pub clash_is_unique : ClashIsUnique
clash_is_unique c p s q t one two = go (one.lowest q t two.shared) (two.lowest p s one.shared)
  where
    go : (p < q) ⊎ ((p ≡ q) × (s ≤ t)) → (q < p) ⊎ ((q ≡ p) × (t ≤ s)) → (p ≡ q) × (s ≡ t)
    go (inl a) (inl b) = absurd (omega arith)
    go (inl a) (inr b) = absurd (omega arith)
    go (inr a) (inl b) = absurd (omega arith)
    go (inr a) (inr b) = (a.0, omega arith)

-- what the least number below n that passes is
abbrev pub IsLeast : (ℕ → Bool) → ℕ → Option ℕ → Type 0
IsLeast test n None = (k : ℕ) → k < n → test k ≡ false
IsLeast test n (Some k) = (k < n) × (test k ≡ true) × ((j : ℕ) → j < k → test j ≡ false)

-- `least` finds it
pub least_is : (test : ℕ → Bool) (n : ℕ) → IsLeast test n (least test n)
least_is test zero = λ k lt. absurd (omega arith)
least_is test (suc n) = go (least test n) refl (least_is test n) (test n) refl
  where
    go : (o : Option ℕ) → least test n ≡ o → IsLeast test n o → (b : Bool) → test n ≡ b → IsLeast test (suc n) (least test (suc n))
    go (Some k) e old b is = rw e (omega (arith, old.0), old.1, old.2)
    go None e old true is = rw (e, is) (omega arith, is, old)
    go None e old false is = rw (e, is) (λ k lt. elim (cases_order k n) [
      | inl same ↦ ap test same ∙ is
      | inr other ↦ elim other [ inl l ↦ old k l | inr g ↦ absurd (omega arith) ]
    ])

-- a gate whose operands share a source is a product
shared_gate : (c : Netlist) (n s : ℕ) (g : Gate) → gate_at c n ≡ Some g → (h : IsShared c n s) → g ≡ And h.left h.right
shared_gate c n s g is h = same_Some g (And h.left h.right) (sym is ∙ h.is_product)

-- the lowest source that the operands of value n share, if they share any
abbrev IsSource : Netlist → ℕ → Option ℕ → Type 0
IsSource c n None = (t : ℕ) → IsShared c n t → ⊥
IsSource c n (Some s) = IsShared c n s × ((t : ℕ) → IsShared c n t → s ≤ t)

-- for a product it is the least number that both rows of the table have ..
product_source : (c : Netlist) (n u v : ℕ) (R : Table) → AreGates c.inputs c.gates → IsTable c (value_count c) R →
    gate_at c n ≡ Some (And u v) → (o : Option ℕ) → IsLeast (λ s. R u s && R v s) n o → IsSource c n o
product_source c n u v R are table is o found = go o found
  where
    below : OperandsBelow n (And u v)
    below = gate_at_operands c n (And u v) are is

    both : (t : ℕ) → IsShared c n t → (t < n) × ((R u t && R v t) ≡ true)
    both t h =
        let e = shared_gate c n t (And u v) is h in
        let left : h.left ≡ u = cc in
        let right : h.right ≡ v = cc in
        let at_left = subst (λ (m : ℕ). Reaches c m t) left h.left_reaches in
        let at_right = subst (λ (m : ℕ). Reaches c m t) right h.right_reaches in
        let within = gate_at_within c n (And u v) is in (
          omega (arith, below.0, source_low c u t are at_left),
          and_from (R u t) (R v t) (table.complete u t (omega (arith, below.0)) at_left) (table.complete v t (omega (arith, below.1)) at_right),
        )

    go : (o : Option ℕ) → IsLeast (λ s. R u s && R v s) n o → IsSource c n o
    go None none = λ t h. let b = both t h in both_ways (R u t && R v t) (none t b.0) b.1
    go (Some s) some =
        let parts = and_parts (R u s) (R v s) some.1 in (
          record { left = u; right = v; is_product = is; left_reaches = (table.sound u s parts.0).1; right_reaches = (table.sound v s parts.1).1 },
          λ t h. let b = both t h in elim (cases_lt t s) [ inl l ↦ absurd (both_ways (R u t && R v t) (some.2 t l) b.1) | inr g ↦ g ],
        )

-- .. and other gates have none
source_is : (c : Netlist) (g : Gate) (n : ℕ) (R : Table) → AreGates c.inputs c.gates → IsTable c (value_count c) R →
    gate_at c n ≡ Some g → IsSource c n (shared_source R g n)
source_is c Zero n R are table is = λ t h. let e = shared_gate c n t Zero is h in cc
source_is c One n R are table is = λ t h. let e = shared_gate c n t One is h in cc
source_is c (Xor u v) n R are table is = λ t h. let e = shared_gate c n t (Xor u v) is h in cc
source_is c (Not u) n R are table is = λ t h. let e = shared_gate c n t (Not u) is h in cc
source_is c (And u v) n R are table is = product_source c n u v R are table is _ (least_is (λ s. R u s && R v s) n)
source_is c (Ref u) n R are table is = λ t h. let e = shared_gate c n t (Ref u) is h in cc

-- the lowest clash from value n on
abbrev IsClashFrom : Netlist → ℕ → Option (ℕ × ℕ) → Type 0
IsClashFrom c n None = (p s : ℕ) → n ≤ p → IsShared c p s → ⊥
IsClashFrom c n (Some q) =
    (n ≤ q.0) × IsShared c q.0 q.1 × ((p t : ℕ) → n ≤ p → IsShared c p t → (q.0 < p) ⊎ ((q.0 ≡ p) × (q.1 ≤ t)))

-- one gate more in front
clash_step : (c : Netlist) (n : ℕ) (o : Option ℕ) (later : Option (ℕ × ℕ)) → IsSource c n o → IsClashFrom c (suc n) later → IsClashFrom c n (or_later n o later)
clash_step c n (Some s) later here rest = (
  omega arith,
  here.0,
  λ p t le h. elim (cases_order n p) [
    | inl same ↦ inr (same, here.1 t (subst (λ (m : ℕ). IsShared c m t) (sym same) h))
    | inr other ↦ elim other [ inl l ↦ inl l | inr g ↦ absurd (omega arith) ]
  ],
)
clash_step c n None None here rest = λ p s le h. elim (cases_order n p) [
  | inl same ↦ here s (subst (λ (m : ℕ). IsShared c m s) (sym same) h)
  | inr other ↦ elim other [ inl l ↦ rest p s l h | inr g ↦ absurd (omega arith) ]
]
clash_step c n None (Some q) here rest = (
  omega (arith, rest.0),
  rest.1,
  λ p t le h. elim (cases_order n p) [
    | inl same ↦ absurd (here t (subst (λ (m : ℕ). IsShared c m t) (sym same) h))
    | inr other ↦ elim other [ inl l ↦ rest.2 p t l h | inr g ↦ absurd (omega arith) ]
  ],
)

-- the computed clash of these gates is the lowest from the first of them on
clashes : (c : Netlist) (gs : List Gate) (n : ℕ) (R : Table) → AreGates c.inputs c.gates → IsTable c (value_count c) R → AreGatesAt c gs n →
    n + length gs ≡ value_count c → IsClashFrom c n (clash_from R gs n)
clashes c [] n R are table at end = λ p s le h. let within = gate_at_within c p _ h.is_product in omega arith
clashes c (g ∷ gs) n R are table at end =
    clash_step c n _ _ (source_is c g n R are table at.0) (clashes c gs (suc n) R are table at.1 (omega arith))

-- so is that of the whole circuit
clash_found : (c : Netlist) → IsWellFormed c → IsClashFrom c c.inputs (clash c)
unfolding clash
clash_found c is = clashes c c.gates c.inputs (reach c) is.gates (table_is c is) (AreGatesAt-all c) refl

-- a product is no input
shared_within : (c : Netlist) (p s : ℕ) → IsShared c p s → c.inputs ≤ p
shared_within c p s h = (gate_at_within c p _ h.is_product).0

-- from the inputs on it is the lowest of all
clash_from_found : (c : Netlist) (q : ℕ × ℕ) → IsClashFrom c c.inputs (Some q) → IsClash c q.0 q.1
clash_from_found c q found = record { shared = found.1; lowest = λ p t h. found.2 p t (shared_within c p t h) h }

-- the computed clash decides
pub clash_decides : ClashDecides
clash_decides c is = go (clash c) refl (clash_found c is)
  where
    go : (o : Option (ℕ × ℕ)) → clash c ≡ o → IsClashFrom c c.inputs o →
        ((clash c ≡ None) ↔ IsAccepted c) × ((p s : ℕ) → (clash c ≡ Some (p, s)) ↔ IsClash c p s)
    go None e found = (
      (λ _ p s h. found p s (shared_within c p s h) h, λ _. e),
      λ p s. (λ some. absurd (none-some (p, s) (sym e ∙ some)), λ h. absurd (found p s (shared_within c p s h.shared) h.shared)),
    )
    go (Some q) e found = (
      (λ none. absurd (none-some q (sym none ∙ e)), λ accepted. absurd (accepted q.0 q.1 found.1)),
      λ p s. (
        λ some. let same = same_Some q (p, s) (sym e ∙ some) in subst (λ (z : ℕ × ℕ). IsClash c z.0 z.1) same (clash_from_found c q found),
        λ h. let same = clash_is_unique c q.0 q.1 p s (clash_from_found c q found) h in e ∙ ap₂ (λ a b. Some (a, b)) same.0 same.1,
      ),
    )
