-- The gate that makes a value.
use Rattle.std.proofs.Common.{◌≡◌, ℕ, zero, suc, ◌+◌, ◌-◌, ◌<◌, ◌≤◌, ◌⊎◌, inl, inr, List, [], ◌∷◌, slice_get, Some, None, refl, ap, sym, ◌∙◌, subst, arith, add-zero, length}
use Rattle.std.proofs.lemmas.Bool.{lt-ltb, le-ltb, cases_lt}
use Rattle.std.proofs.lemmas.Option.{none-some, same_Some, slice_get_within}
use Rattle.mask_circuit.specs.declared.gates.Gate.{Gate}
use Rattle.mask_circuit.specs.Netlist.{Netlist, AreGates, OperandsBelow, value_count}
use Rattle.mask_circuit.specs.Acceptance.{gate_at}

-- an input has no gate
pub gate_at_input : (c : Netlist) (v : ℕ) → v < c.inputs → gate_at c v ≡ None
gate_at_input c v lt = rw (lt-ltb v c.inputs lt) refl

-- gate k makes value inputs + k
pub gate_at_gate : (c : Netlist) (k : ℕ) → gate_at c (c.inputs + k) ≡ slice_get c.gates k
gate_at_gate c k =
    let e : (c.inputs + k) - c.inputs ≡ k = omega arith in
    rw (le-ltb (c.inputs + k) c.inputs (omega arith), e) refl

-- a value with a gate is no input, and has a number below the count
pub gate_at_within : (c : Netlist) (v : ℕ) (g : Gate) → gate_at c v ≡ Some g → (c.inputs ≤ v) × (v < value_count c)
gate_at_within c v g is = go (cases_lt v c.inputs)
  where
    go : (v < c.inputs) ⊎ (c.inputs ≤ v) → (c.inputs ≤ v) × (v < value_count c)
    go (inl lt) = absurd (none-some g (sym (gate_at_input c v lt) ∙ is))
    go (inr le) =
        let e : v ≡ c.inputs + (v - c.inputs) = omega arith in
        let within = slice_get_within c.gates (v - c.inputs) g (sym (ap (gate_at c) e ∙ gate_at_gate c (v - c.inputs)) ∙ is) in
        (le, omega arith)

-- the operands of gate k of a list, the first of which makes value n
operands_of : (gs : List Gate) (n k : ℕ) (g : Gate) → AreGates n gs → slice_get gs k ≡ Some g → OperandsBelow (n + k) g
operands_of [] n k g are is = absurd (none-some g is)
operands_of (h ∷ gs) n zero g are is =
    let e : n ≡ n + 0 = omega arith in
    subst (λ (m : ℕ). OperandsBelow m g) e (subst (OperandsBelow n) (same_Some h g is) are.0)
operands_of (h ∷ gs) n (suc k) g are is =
    let e : suc n + k ≡ n + suc k = omega arith in subst (λ (m : ℕ). OperandsBelow m g) e (operands_of gs (suc n) k g are.1 is)

-- the operands of a gate are below its value
pub gate_at_operands : (c : Netlist) (v : ℕ) (g : Gate) → AreGates c.inputs c.gates → gate_at c v ≡ Some g → OperandsBelow v g
gate_at_operands c v g are is =
    let within = gate_at_within c v g is in
    let e : v ≡ c.inputs + (v - c.inputs) = omega (arith, within.0) in
    subst (λ (m : ℕ). OperandsBelow m g) (sym e)
    (operands_of c.gates c.inputs (v - c.inputs) g are (sym (ap (gate_at c) e ∙ gate_at_gate c (v - c.inputs)) ∙ is))

-- these are the circuit's gates from value n on
abbrev pub AreGatesAt : Netlist → List Gate → ℕ → Type 0
AreGatesAt c [] n = Unit {0}
AreGatesAt c (g ∷ gs) n = (gate_at c n ≡ Some g) × AreGatesAt c gs (suc n)

AreGatesAt-from : (c : Netlist) (gs : List Gate) (n : ℕ) → ((k : ℕ) → k < length gs → gate_at c (n + k) ≡ slice_get gs k) → AreGatesAt c gs n
AreGatesAt-from c [] n h = tt
AreGatesAt-from c (g ∷ gs) n h = (
  ap (gate_at c) (sym (add-zero n)) ∙ h 0 (omega arith),
  AreGatesAt-from c gs (suc n) (λ k l. let e : suc n + k ≡ n + suc k = omega arith in ap (gate_at c) e ∙ h (suc k) (omega arith)),
)

-- all gates of a circuit stand from the inputs on
pub AreGatesAt-all : (c : Netlist) → AreGatesAt c c.gates c.inputs
AreGatesAt-all c = AreGatesAt-from c c.gates c.inputs (λ k l. gate_at_gate c k)
