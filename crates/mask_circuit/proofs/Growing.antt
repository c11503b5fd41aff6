-- A circuit stays one under one more gate.
use Rattle.std.proofs.Common.{◌≡◌, ℕ, suc, ◌+◌, ◌<◌, ◌≤◌, List, [], ◌∷◌, ◌++◌, length, subst, arith, length-append}
use Rattle.std.specs.List.{All}
use Rattle.mask_circuit.specs.declared.gates.Gate.{Gate}
use Rattle.mask_circuit.specs.declared.limits.TheConstants.{MAX_VALUES}
use Rattle.mask_circuit.specs.Netlist.{Netlist, IsCircuit, AreGates, OperandsBelow, value_count, with_gate}

-- a gate of earlier values goes on a list of gates
pub AreGates-more : (n : ℕ) (gs : List Gate) (g : Gate) → AreGates n gs → OperandsBelow (n + length gs) g → AreGates n (gs ++ g ∷ [])
AreGates-more n [] g are below = (let e : n + 0 ≡ n = omega arith in subst (λ (m : ℕ). OperandsBelow m g) e below, tt)
AreGates-more n (h ∷ gs) g are below = (
  are.0,
  AreGates-more (suc n) gs g are.1
      (let e : n + suc (length gs) ≡ suc n + length gs = omega arith in subst (λ (m : ℕ). OperandsBelow m g) e below),
)

-- what is below n elements is below n and one more
below_one_more : (us : List ℕ) (m n : ℕ) → m ≤ n → All (λ u. u < m) us → All (λ u. u < n) us
below_one_more us m n up below k d h = let b = below k d h in omega arith

pub IsCircuit-with_gate : (c : Netlist) (g : Gate) → IsCircuit c → OperandsBelow (value_count c) g → value_count c < MAX_VALUES → IsCircuit (with_gate c g)
IsCircuit-with_gate c g is below room =
    let grown : length (c.gates ++ g ∷ []) ≡ length c.gates + 1 = omega (arith, length-append c.gates (g ∷ [])) in
    record {
      formed = record {
        gates = AreGates-more c.inputs c.gates g is.formed.gates below;
        outputs = below_one_more c.outputs _ _ (omega arith) is.formed.outputs;
      };
      few_values = omega arith;
      few_outputs = is.few_outputs;
    }
