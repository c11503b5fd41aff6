use Rattle.std.proofs.Common.{◌≡◌, ◌+◌, ◌-◌, ◌<◌}
use Rattle.mask_circuit.specs.Netlist.{value_count}
use Rattle.mask_circuit.specs.Expansion.{wires_before}
use Rattle.mask_circuit.proofs.circuits.Circuit.wire_place.Given as goal

abbrev pub invariant-loop-part : goal.invariant-loop-part
invariant-loop-part l = record {
  within : l.value < value_count l.self;
  left : wires_before l.self (l.d + 1) l.value + l.part ≡ l.wire;
}

abbrev pub decreases-loop-part : goal.decreases-loop-part
decreases-loop-part l = value_count l.self - l.value
