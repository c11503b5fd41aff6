-- A circuit stays one as it grows.
use Rattle.std.proofs.Common.{◌≡◌, ℕ, ◌+◌, ◌<◌, ◌≤◌, true, [], ◌∷◌, length, arith, length-append, ltb-true}
use Rattle.std.proofs.lemmas.Bool.{and_parts}
use Rattle.std.proofs.lemmas.List.Elements.{All-nil, All-push}
use Rattle.mask_circuit.specs.declared.gates.Gate.{Gate}
use Rattle.mask_circuit.specs.declared.gates.Gate.TheVariants.{Zero, One, Xor, Not, And, Ref}
use Rattle.mask_circuit.specs.Netlist.{Netlist, IsCircuit, OperandsBelow, value_count, only_inputs, with_output}
use Rattle.mask_text.specs.Faults.{are_below}

-- the test says that the operands are below n
pub operands_below : (n : ℕ) (gate : Gate) → are_below n gate ≡ true → OperandsBelow n gate
unfolding are_below
operands_below n Zero e = tt
operands_below n One e = tt
operands_below n (Xor u v) e = let p = and_parts _ _ e in (ltb-true _ _ p.0, ltb-true _ _ p.1)
operands_below n (Not u) e = ltb-true _ _ e
operands_below n (And u v) e = let p = and_parts _ _ e in (ltb-true _ _ p.0, ltb-true _ _ p.1)
operands_below n (Ref u) e = ltb-true _ _ e

pub circuit-inputs : (n : ℕ) → n ≤ 1_000_000 → IsCircuit (only_inputs n)
circuit-inputs n few = record {
  formed = record { gates = tt; outputs = All-nil (λ u. u < n + 0) };
  few_values = omega arith;
  few_outputs = omega arith;
}

pub circuit-out : (c : Netlist) (u : ℕ) → IsCircuit c → u < value_count c → length c.outputs < 1_000_000 → IsCircuit (with_output c u)
circuit-out c u is below room = record {
  formed = record { gates = is.formed.gates; outputs = All-push (λ u. u < value_count c) c.outputs u is.formed.outputs below };
  few_values = is.few_values;
  few_outputs = omega (arith, length-append c.outputs (u ∷ []));
}
