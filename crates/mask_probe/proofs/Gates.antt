-- Gate number k of a circuit as a shift comes to it.
use Rattle.std.proofs.Common.{◌≡◌, ℕ, zero, suc, ◌+◌, ◌<◌, ◌≤◌, Bool, true, false, ◌||◌, List, [], ◌∷◌, length, drop, drop-cons, get_or, Some, refl, sym, ap, ◌∙◌, subst, arith, add-zero}
use Rattle.std.proofs.lemmas.Bool.{false_from_ne_true}
use Rattle.std.proofs.lemmas.Option.{slice_get-get_or}
use Rattle.mask_circuit.specs.declared.gates.Gate.{Gate}
use Rattle.mask_circuit.specs.declared.gates.Gate.TheVariants.{Zero}
use Rattle.mask_circuit.specs.Netlist.{Netlist, OperandsBelow, AreGates, IsCircuit, value_count}
use Rattle.mask_circuit.specs.declared.gates.Wire.{Wire}
use Rattle.mask_circuit.specs.Wires.{gate_draws}
use Rattle.mask_circuit.specs.Expansion.{CircuitWire}
use Rattle.mask_circuit.specs.Need.{ShareSet, inner_probes, product_rows, demand, need_from}
use Rattle.mask_circuit.specs.Acceptance.{gate_at}
use Rattle.mask_circuit.proofs.GateAt.{gate_at_gate}
use Rattle.mask_laws.specs.Circuits.{FitsAt, FitsFrom}
use Rattle.mask_laws.proofs.Demands.{demand-part, demand_part-below}
use Rattle.mask_laws.proofs.Shifts.{draws_from, draws_from-cons}
use Rattle.mask_probe.proofs.Demanding.{FitsFrom-drop, gate_of, gate_of-operands}

-- a gate demands nothing of a value that isn't earlier
no_demand : (n : ℕ) (g : Gate) (Q : List Wire) (O : ShareSet) (v i : ℕ) → OperandsBelow n g → n ≤ v → demand g Q O v i ≡ false
no_demand n g Q O v i below le =
    false_from_ne_true (demand g Q O v i)
    (λ d. let lt = demand_part-below (product_rows Q) n g Q O v i below (sym (demand-part g Q O v i) ∙ d) in omega arith)

or-none : (a b : Bool) → b ≡ false → (a || b) ≡ a
or-none true b e = refl
or-none false b e = e

-- the gates before gate k, and it, demand nothing of the values from its own on
need_from-drop : (P : List CircuitWire) (gs : List Gate) (n k v i : ℕ) → AreGates n gs → n + k ≤ suc v → need_from P gs n v i ≡ need_from P (drop k gs) (n + k) v i
need_from-drop P gs n zero v i are le = ap (λ (m : ℕ). need_from P gs m v i) (sym (add-zero n))
need_from-drop P [] n (suc k) v i are le = refl
need_from-drop P (g ∷ gs) n (suc k) v i are le =
    let e : suc n + k ≡ n + suc k = omega arith in
    or-none (need_from P gs (suc n) v i) (demand g (inner_probes n P) (need_from P gs (suc n) n) v i)
    (no_demand n g (inner_probes n P) (need_from P gs (suc n) n) v i are.0 (omega arith))
    ∙ need_from-drop P gs (suc n) k v i are.1 (omega arith) ∙ ap (λ (m : ℕ). need_from P (drop k gs) m v i) e

-- what holds of gate number k, which makes value v, under the probes P
pub record AtGate (c : Netlist) (N : ℕ) (P : List CircuitWire) (k v : ℕ) (g : Gate) : Type 0 where
  pub value : v < value_count c
  pub gate : gate_at c v ≡ Some g
  pub left : drop k c.gates ≡ g ∷ drop (suc k) c.gates
  pub below : OperandsBelow v g
  pub fits : FitsAt N g (inner_probes v P) (need_from P (drop (suc k) c.gates) (suc v) v)
  pub need : (i : ℕ) → need_from P c.gates c.inputs v i ≡ need_from P (drop (suc k) c.gates) (suc v) v i
  pub draws : draws_from N (drop k c.gates) ≡ gate_draws N g + draws_from N (drop (suc k) c.gates)

at_place : (c : Netlist) (N : ℕ) (P : List CircuitWire) (k : ℕ) → AreGates c.inputs c.gates → FitsFrom N P c.gates c.inputs → k < length c.gates →
    AtGate c N P k (c.inputs + k) (gate_of c k)
at_place c N P k are fits lt =
    let v : ℕ = c.inputs + k in
    let rest : List Gate = drop (suc k) c.gates in
    let left : drop k c.gates ≡ gate_of c k ∷ rest = drop-cons c.gates k Zero lt in
    let fit : FitsFrom N P (gate_of c k ∷ rest) v = subst (λ (l : List Gate). FitsFrom N P l v) left (FitsFrom-drop N P c.gates c.inputs k fits) in
    let past : c.inputs + suc k ≡ suc v = omega arith in
    record {
      value = omega arith;
      gate = gate_at_gate c k ∙ slice_get-get_or c.gates k Zero lt;
      left = left;
      below = gate_of-operands c k are lt;
      fits = fit.0;
      need = λ i. need_from-drop P c.gates c.inputs (suc k) v i are (omega arith) ∙ ap (λ (m : ℕ). need_from P rest m v i) past;
      draws = ap (draws_from N) left ∙ draws_from-cons N (gate_of c k) rest;
    }

pub at_gate : (c : Netlist) (N : ℕ) (P : List CircuitWire) (k v : ℕ) (gates : List Gate) → IsCircuit c → FitsFrom N P c.gates c.inputs → gates ≡ c.gates →
    v ≡ c.inputs + k → k < length gates → AtGate c N P k v (get_or gates k Zero)
at_gate c N P k v gates circuit fits same value lt = rw (same, value) (at_place c N P k circuit.formed.gates fits (rw same at lt))
