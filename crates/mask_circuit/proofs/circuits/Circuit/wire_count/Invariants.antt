use Rattle.std.proofs.Common.{◌≡◌, ◌+◌, ◌*◌, ◌≤◌}
use Rattle.mask_circuit.specs.Expansion.{wires_before}
use Rattle.mask_circuit.proofs.circuits.Circuit.wire_count.Given as goal

abbrev pub invariant-loop-value : goal.invariant-loop-value
invariant-loop-value l = record {
  so_far : l.count ≡ wires_before l.self (l.d + 1) l.value;
  most : l.count ≤ 204 * l.value;
}
