-- Calls that lay gates: a call of a builder is one, and what a call of several does where one of them refuses.
use Rattle.std.proofs.Common.{◌≡◌, ℕ, ◌≤◌, ◌<◌, ◌↔◌, [], ◌∷◌, length, Result, Ok, Err, IfOk, OnOk, OnErr, IsErrOf, IsErrAnd, refl, ap, sym, ◌∙◌, inl, inr, subst, arith, length-append}
use Rattle.std.proofs.lemmas.Bool.{cases_lt}
use Rattle.mask_circuit.specs.declared.gates.Gate.{Gate}
use Rattle.mask_circuit.specs.declared.builders.CircuitError.{CircuitError}
use Rattle.mask_circuit.specs.declared.builders.CircuitError.TheVariants.{TooManyValues}
use Rattle.mask_circuit.specs.Netlist.{Netlist, IsCircuit, value_count, with_gate, with_output}
use Rattle.mask_parts.specs.Drafts.{with_gates, with_outputs, Grows, IsWithinLimits, IsRefused, Lays}
use Rattle.mask_parts.proofs.Growing.{value_count-with_gates, Grows-refl, Grows-trans, Grows-with_gates, Grows-with_outputs, IsWithinLimits-before}

-- a circuit is within the limits
pub IsWithinLimits-circuit : (c : Netlist) → IsCircuit c → IsWithinLimits c
IsWithinLimits-circuit c is = record { values = is.few_values; outputs = is.few_outputs }

-- REFUSALS

-- where nothing was made
pub IsRefused-same : (before whole after : Netlist) (e : CircuitError) → after ≡ before → Grows before whole → (e ≡ TooManyValues → ¬ IsWithinLimits whole) → IsRefused before whole after e
IsRefused-same before whole after e same grows too_many = rw same (record { begun = Grows-refl before; part = grows; too_many = too_many })

-- a part of the whole refused, behind what was made before it
pub IsRefused-within : (before old part after whole : Netlist) (e : CircuitError) → Grows before old → Grows part whole → IsRefused old part after e → IsRefused before whole after e
IsRefused-within before old part after whole e begun rest refused = record {
  begun = Grows-trans before old after begun refused.begun;
  part = Grows-trans after part whole refused.part rest;
  too_many = λ eq within. refused.too_many eq (IsWithinLimits-before part whole rest within);
}

-- CALLS OF A BUILDER

Ok≢Err : {A : Type 0} (v : A) (e : CircuitError) → Ok v ≡ Err e → ⊥
Ok≢Err v e eq = cc

-- a result that isn't an error isn't refused where an error would say so
has_room : {A : Type 0} (v : A) (n : ℕ) → IsErrOf (Ok v) TooManyValues ↔ (1_000_000 ≤ n) → n < 1_000_000
has_room v n full = elim (cases_lt n 1_000_000) [ inl lt ↦ lt | inr le ↦ absurd (Ok≢Err v TooManyValues (full.1 le)) ]

-- a call that lays one gate
pub Lays-from_gate : (before : Netlist) (g : Gate) (after : Netlist) (r : Result ℕ CircuitError) → IsWithinLimits before →
    IfOk r (λ v. (v ≡ value_count before) × (after ≡ with_gate before g)) →
    IsErrOf r TooManyValues ↔ (1_000_000 ≤ value_count before) →
    OnErr r (after ≡ before) →
    Lays before (with_gates before (g ∷ [])) (value_count before) after r
unfolding with_gates
Lays-from_gate before g after (Ok v) is made full same = (
  made.0,
  made.1,
  record {
    values = let room = has_room v (value_count before) full in omega (arith, length-append before.gates (g ∷ []));
    outputs = is.outputs;
  },
)
Lays-from_gate before g after (Err e) is made full same =
    IsRefused-same before (with_gates before (g ∷ [])) after e same (Grows-with_gates before (g ∷ []))
    (λ eq within. let many : 1_000_000 ≤ value_count before = full.0 (ap Err eq) in
    let few = within.values in omega (arith, value_count-with_gates before (g ∷ [])))

-- a call that hands out a value
pub Lays-from_out : (before : Netlist) (u : ℕ) (after : Netlist) (r : Result (Unit {0}) CircuitError) → IsWithinLimits before →
    OnOk r (after ≡ with_output before u) →
    IsErrOf r TooManyValues ↔ (1_000_000 ≤ length before.outputs) →
    OnErr r (after ≡ before) →
    Lays before (with_outputs before (u ∷ [])) tt after r
unfolding with_outputs
Lays-from_out before u after (Ok v) is made full same = (
  refl,
  made,
  record {
    values = is.values;
    outputs = let room = has_room v (length before.outputs) full in omega (arith, length-append before.outputs (u ∷ []));
  },
)
Lays-from_out before u after (Err e) is made full same =
    IsRefused-same before (with_outputs before (u ∷ [])) after e same (Grows-with_outputs before (u ∷ []))
    (λ eq within. let many : 1_000_000 ≤ length before.outputs = full.0 (ap Err eq) in
    let few = within.outputs in omega (arith, length-append before.outputs (u ∷ [])))

-- SEVERAL CALLS

-- the exit of a `?` at a call that was to make a part of the whole
pub Lays-exit : {A : Type 0} (before old part after whole : Netlist) (answer : A) (r : Result A CircuitError) (e : CircuitError) → IsErrAnd r (λ d. d ≡ e) →
    Grows before old → Grows part whole → IsRefused old part after e → Lays before whole answer after r
Lays-exit before old part after whole answer (Ok v) e is begun rest refused = elim is [ ]
Lays-exit before old part after whole answer (Err d) e is begun rest refused =
    IsRefused-within before old part after whole d begun rest (rw is refused)

-- a last call, whose result is handed on
pub Lays-last : {A : Type 0} (before old part whole after : Netlist) (answer answer' : A) (r : Result A CircuitError) → Grows before old → part ≡ whole → answer ≡ answer' →
    Lays old part answer after r → Lays before whole answer' after r
Lays-last before old part whole after answer answer' (Ok v) begun all same laid =
    (laid.0 ∙ same, laid.1 ∙ all, subst IsWithinLimits all laid.2)
Lays-last before old part whole after answer answer' (Err e) begun all same refused =
    IsRefused-within before old part after whole e begun (subst (Grows part) all (Grows-refl part)) refused

-- what holds of the whole and the answer holds after an Ok
pub IfOk-from_Lays : {A : Type 0} (before whole after : Netlist) (answer : A) (r : Result A CircuitError) (Q : A → Netlist → Type 0) →
    Lays before whole answer after r → Q answer whole → IfOk r (λ a. Q a after)
IfOk-from_Lays before whole after answer (Ok a) Q laid q =
    subst (λ (b : _). Q b after) (sym laid.0) (subst (λ (d : Netlist). Q answer d) (sym laid.1) q)
IfOk-from_Lays before whole after answer (Err e) Q laid q = tt

-- LOOPS

-- The draft before has grown to the draft now, and what is left to lay on that makes rest, which is the whole.
pub record IsUnderWay (before now rest whole : Netlist) : Type 0 where
  pub begun : Grows before now
  pub left : rest ≡ whole
  pub within : IsWithinLimits now

pub IsUnderWay-first : (before whole : Netlist) → IsWithinLimits before → IsUnderWay before before whole whole
IsUnderWay-first before whole within = record { begun = Grows-refl before; left = refl; within = within }

pub IsUnderWay-more : (before now after rest rest' whole : Netlist) → IsUnderWay before now rest whole → Grows now after → rest' ≡ rest → IsWithinLimits after →
    IsUnderWay before after rest' whole
IsUnderWay-more before now after rest rest' whole way grows same within =
    record { begun = Grows-trans before now after way.begun grows; left = same ∙ way.left; within = within }

-- a call in the loop refuses, which was to make a part of what is left
pub IsUnderWay-exit : {A : Type 0} (before now part rest whole after : Netlist) (answer : A) (r : Result A CircuitError) (e : CircuitError) → IsErrAnd r (λ d. d ≡ e) →
    IsUnderWay before now rest whole → Grows part rest → IsRefused now part after e → Lays before whole answer after r
IsUnderWay-exit before now part rest whole after answer r e is way grows refused =
    Lays-exit before now part after whole answer r e is way.begun (subst (Grows part) way.left grows) refused

-- nothing is left
pub IsUnderWay-done : (before now rest whole : Netlist) → IsUnderWay before now rest whole → rest ≡ now → (now ≡ whole) × IsWithinLimits whole
IsUnderWay-done before now rest whole way none =
    let same = sym none ∙ way.left in (same, subst IsWithinLimits same way.within)
