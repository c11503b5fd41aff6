-- Flags on values, and the fences that they show.
use Rattle.std.proofs.Common.{◌≡◌, ℕ, ◌+◌, ◌<◌, ◌≤◌, ◌⊎◌, inl, inr, Bool, true, false, List, length, get_or, replicate, Some, None, refl, ap, sym, ◌∙◌, subst, arith, get_or-set_same, get_or-set_other}
use Rattle.std.specs.declared.option.Option.{Option}
use Rattle.std.proofs.Math.ListN.{length-set}
use Rattle.std.proofs.lemmas.Bool.{cases_eq, cases_lt, true≢false}
use Rattle.std.proofs.lemmas.List.{get_or-replicate, get_or_past, length-replicate}
use Rattle.mask_circuit.specs.declared.gates.Gate.{Gate}
use Rattle.mask_circuit.specs.declared.gates.Gate.TheVariants.{Zero, One, Xor, Not, And, Ref}
use Rattle.mask_circuit.specs.Netlist.{Netlist, IsCircuit, value_count}
use Rattle.mask_circuit.specs.Acceptance.{gate_at, Uses, output_at, IsFence}
use Rattle.mask_circuit.proofs.GateAt.{gate_at_within}
use Rattle.mask_check.specs.Fencing.{IsFlagged, with_flag, with_operands, FlagsOperands, FencesBefore, IsRefresh}
use Rattle.mask_check.specs.Marks.{HasOperandsBelow}
use Rattle.mask_check.proofs.Passing.{operands_below}

-- FLAGS

length-with_flag : (flags : List Bool) (u : ℕ) → length (with_flag flags u) ≡ length flags
length-with_flag flags u = length-set flags u true

-- a flag stays ..
with_flag-kept : (flags : List Bool) (u w : ℕ) → u < length flags → IsFlagged flags w → IsFlagged (with_flag flags u) w
with_flag-kept flags u w lt h = elim (cases_eq w u) [
  | inl e ↦ rw e (get_or-set_same flags u true false lt)
  | inr ne ↦ get_or-set_other flags u w true false ne ∙ h
]

-- .. the new one is there ..
with_flag-new : (flags : List Bool) (u : ℕ) → u < length flags → IsFlagged (with_flag flags u) u
with_flag-new flags u lt = get_or-set_same flags u true false lt

-- .. and there are no others
with_flag-only : (flags : List Bool) (u w : ℕ) → IsFlagged (with_flag flags u) w → IsFlagged flags w ⊎ (w ≡ u)
with_flag-only flags u w h = elim (cases_eq w u) [
  | inl e ↦ inr e
  | inr ne ↦ inl (sym (get_or-set_other flags u w true false ne) ∙ h)
]

-- both flags of two operands
with_flags-kept : (flags : List Bool) (u v w : ℕ) → (u < length flags) × (v < length flags) → IsFlagged flags w → IsFlagged (with_flag (with_flag flags u) v) w
with_flags-kept flags u v w below h =
    with_flag-kept (with_flag flags u) v w (omega (arith, below.1, length-with_flag flags u)) (with_flag-kept flags u w below.0 h)

with_flags-new : (flags : List Bool) (u v w : ℕ) → (u < length flags) × (v < length flags) → (w ≡ u) ⊎ (w ≡ v) → IsFlagged (with_flag (with_flag flags u) v) w
with_flags-new flags u v w below (inl e) =
    rw e (with_flag-kept (with_flag flags u) v u (omega (arith, below.1, length-with_flag flags u)) (with_flag-new flags u below.0))
with_flags-new flags u v w below (inr e) = rw e (with_flag-new (with_flag flags u) v (omega (arith, below.1, length-with_flag flags u)))

with_flags-only : (flags : List Bool) (u v w : ℕ) → IsFlagged (with_flag (with_flag flags u) v) w → IsFlagged flags w ⊎ ((w ≡ u) ⊎ (w ≡ v))
with_flags-only flags u v w h = elim (with_flag-only (with_flag flags u) v w h) [
  | inl one ↦ elim (with_flag-only flags u w one) [ inl old ↦ inl old | inr e ↦ inr (inl e) ]
  | inr e ↦ inr (inr e)
]

length-with_operands : (g : Option Gate) (flags : List Bool) → length (with_operands g flags) ≡ length flags
length-with_operands None flags = refl
length-with_operands (Some Zero) flags = refl
length-with_operands (Some One) flags = refl
length-with_operands (Some (Xor u v)) flags = length-with_flag (with_flag flags u) v ∙ length-with_flag flags u
length-with_operands (Some (Not u)) flags = length-with_flag flags u
length-with_operands (Some (And u v)) flags = length-with_flag (with_flag flags u) v ∙ length-with_flag flags u
length-with_operands (Some (Ref u)) flags = length-with_flag flags u

with_operands-kept : (g : Option Gate) (flags : List Bool) (w : ℕ) → HasOperandsBelow (length flags) g → IsFlagged flags w → IsFlagged (with_operands g flags) w
with_operands-kept None flags w below h = h
with_operands-kept (Some Zero) flags w below h = h
with_operands-kept (Some One) flags w below h = h
with_operands-kept (Some (Xor u v)) flags w below h = with_flags-kept flags u v w below h
with_operands-kept (Some (Not u)) flags w below h = with_flag-kept flags u w below h
with_operands-kept (Some (And u v)) flags w below h = with_flags-kept flags u v w below h
with_operands-kept (Some (Ref u)) flags w below h = with_flag-kept flags u w below h

with_operands-new : (g : Option Gate) (flags : List Bool) (w : ℕ) → HasOperandsBelow (length flags) g → Uses w g → IsFlagged (with_operands g flags) w
with_operands-new None flags w below uses = absurd uses
with_operands-new (Some Zero) flags w below uses = absurd uses
with_operands-new (Some One) flags w below uses = absurd uses
with_operands-new (Some (Xor u v)) flags w below uses = with_flags-new flags u v w below uses
with_operands-new (Some (Not u)) flags w below e = rw e (with_flag-new flags u below)
with_operands-new (Some (And u v)) flags w below uses = with_flags-new flags u v w below uses
with_operands-new (Some (Ref u)) flags w below e = rw e (with_flag-new flags u below)

with_operands-only : (g : Option Gate) (flags : List Bool) (w : ℕ) → IsFlagged (with_operands g flags) w → IsFlagged flags w ⊎ Uses w g
with_operands-only None flags w h = inl h
with_operands-only (Some Zero) flags w h = inl h
with_operands-only (Some One) flags w h = inl h
with_operands-only (Some (Xor u v)) flags w h = with_flags-only flags u v w h
with_operands-only (Some (Not u)) flags w h = with_flag-only flags u w h
with_operands-only (Some (And u v)) flags w h = with_flags-only flags u v w h
with_operands-only (Some (Ref u)) flags w h = with_flag-only flags u w h

-- THE OPERANDS OF ALL GATES

pub FlagsOperands-start : (c : Netlist) (flags : List Bool) → flags ≡ replicate (value_count c) false → FlagsOperands c 0 flags
FlagsOperands-start c flags e = record {
  size = ap (λ (fs : List Bool). length fs) e ∙ length-replicate (value_count c) false;
  only = λ u h. absurd (true≢false (sym (subst (λ (fs : List Bool). get_or fs u false ≡ true) e h) ∙ none u (cases_lt u (value_count c))));
  all = λ u v lt uses. absurd (omega arith);
}
  where
    none : (u : ℕ) → (u < value_count c) ⊎ (value_count c ≤ u) → get_or (replicate (value_count c) false) u false ≡ false
    none u (inl lt) = get_or-replicate (value_count c) u false false lt
    none u (inr le) = get_or_past (replicate (value_count c) false) u false (omega (arith, length-replicate (value_count c) false))

-- one value more
pub FlagsOperands-step : (c : Netlist) (n : ℕ) (g : Option Gate) (flags new : List Bool) → IsCircuit c → n < value_count c → g ≡ gate_at c n →
    new ≡ with_operands g flags → FlagsOperands c n flags → FlagsOperands c (n + 1) new
FlagsOperands-step c n g flags new is within gate e old = subst (FlagsOperands c (n + 1)) (sym e) (record {
  size = length-with_operands g flags ∙ old.size;
  only = λ u h. elim (with_operands-only g flags u h) [
    | inl kept ↦ let o = old.only u kept in (o.0, omega (arith, o.1), o.2)
    | inr uses ↦ (n, omega arith, subst (Uses u) gate uses)
  ];
  all = λ u v lt uses. elim (cases_eq v n) [
    | inl same ↦ with_operands-new g flags u below (subst (Uses u) (sym gate) (subst (λ (x : ℕ). Uses u (gate_at c x)) same uses))
    | inr ne ↦ with_operands-kept g flags u below (old.all u v (omega arith) uses)
  ];
})
  where
    below : HasOperandsBelow (length flags) g
    below = subst (HasOperandsBelow (length flags)) (sym gate) (operands_below c n (length flags) is.formed.gates (omega (arith, old.size)))

-- only values have gates
uses_within : (c : Netlist) (u v : ℕ) (g : Option Gate) → gate_at c v ≡ g → Uses u g → v < value_count c
uses_within c u v None e uses = absurd uses
uses_within c u v (Some g) e uses = (gate_at_within c v g e).1

-- THE OUTPUTS

pub FencesBefore-start : (c : Netlist) (flags : List Bool) → FlagsOperands c (value_count c) flags → FencesBefore c 0 flags
FencesBefore-start c flags all = record {
  size = all.size;
  only = λ u h. let o = all.only u h in inl (o.0, o.2);
  operands = λ u v uses. all.all u v (uses_within c u v (gate_at c v) refl uses) uses;
  outputs = λ i lt. absurd (omega arith);
  fences = λ i lt. absurd (omega arith);
}

-- a refresh without a flag is a fence
is_fence : (c : Netlist) (k : ℕ) (g : Option Gate) (flags : List Bool) → gate_at c (output_at c k) ≡ g → IsRefresh g → FencesBefore c k flags →
    get_or flags (output_at c k) false ≡ false → IsFence c k
is_fence c k None flags is refresh before free = absurd refresh
is_fence c k (Some Zero) flags is refresh before free = absurd refresh
is_fence c k (Some One) flags is refresh before free = absurd refresh
is_fence c k (Some (Xor u v)) flags is refresh before free = absurd refresh
is_fence c k (Some (Not u)) flags is refresh before free = absurd refresh
is_fence c k (Some (And u v)) flags is refresh before free = absurd refresh
is_fence c k (Some (Ref u)) flags is refresh before free = record {
  is_refresh = (u, is);
  is_unused = λ v uses. true≢false (sym (before.operands _ v uses) ∙ free);
  is_first = λ i lt e. true≢false (sym (subst (IsFlagged flags) e (before.outputs i lt)) ∙ free);
}

-- one output more
pub FencesBefore-step : (c : Netlist) (k : ℕ) (flags : List Bool) → output_at c k < value_count c → IsRefresh (gate_at c (output_at c k)) →
    get_or flags (output_at c k) false ≡ false → FencesBefore c k flags → FencesBefore c (k + 1) (with_flag flags (output_at c k))
FencesBefore-step c k flags within refresh free old = record {
  size = length-with_flag flags (output_at c k) ∙ old.size;
  only = λ u h. elim (with_flag-only flags (output_at c k) u h) [
    | inl kept ↦ elim (old.only u kept) [ inl used ↦ inl used | inr earlier ↦ inr (earlier.0, omega (arith, earlier.1), earlier.2) ]
    | inr e ↦ inr (k, omega arith, sym e)
  ];
  operands = λ u v uses. with_flag-kept flags (output_at c k) u in_flags (old.operands u v uses);
  outputs = λ i lt. elim (cases_eq i k) [
    | inl e ↦ subst (λ (x : ℕ). IsFlagged (with_flag flags (output_at c k)) (output_at c x)) (sym e) (with_flag-new flags (output_at c k) in_flags)
    | inr ne ↦ with_flag-kept flags (output_at c k) (output_at c i) in_flags (old.outputs i (omega arith))
  ];
  fences = λ i lt. elim (cases_eq i k) [
    | inl e ↦ subst (IsFence c) (sym e) (is_fence c k (gate_at c (output_at c k)) flags refl refresh old free)
    | inr ne ↦ old.fences i (omega arith)
  ];
}
  where
    in_flags : output_at c k < length flags
    in_flags = omega (arith, old.size)

-- the same of a value and its gate
pub FencesBefore-more : (c : Netlist) (k value : ℕ) (g : Option Gate) (flags : List Bool) → value ≡ output_at c k → value < value_count c → g ≡ gate_at c value → IsRefresh g →
    get_or flags value false ≡ false → FencesBefore c k flags → FencesBefore c (k + 1) (with_flag flags value)
FencesBefore-more c k value g flags e within gate refresh free old =
    subst (λ (u : ℕ). FencesBefore c (k + 1) (with_flag flags u)) (sym e)
    (FencesBefore-step c k flags (omega arith) (subst (λ (u : ℕ). IsRefresh (gate_at c u)) e (subst IsRefresh gate refresh))
    (subst (λ (u : ℕ). get_or flags u false ≡ false) e free) old)

-- outputs are values
pub output_within : (c : Netlist) (outputs : List ℕ) (k : ℕ) → IsCircuit c → outputs ≡ c.outputs → k < length outputs → get_or outputs k 0 < value_count c
output_within c outputs k is e within = subst (λ (us : List ℕ). k < length us → get_or us k 0 < value_count c) (sym e) (λ lt. is.formed.outputs k 0 lt) within
