use Rattle.std.proofs.Common.{◌≡◌, ◌+◌, length, drop}
use Rattle.mask_circuit.specs.Ring.{bits}
use Rattle.mask_circuit.specs.Expansion.{start}
use Rattle.mask_circuit.specs.Shift.{shift_from}
use Rattle.mask_laws.proofs.Shifts.{draws_from}
use Rattle.mask_probe.specs.Placing.{wires_of}
use Rattle.mask_probe.specs.Sides.{input_shares}
use Rattle.mask_probe.proofs.Walking.{Walked}
use Rattle.mask_probe.proofs.tapes.shifted.Given as goal

abbrev pub invariant-loop-gate : goal.invariant-loop-gate
invariant-loop-gate g l = record {
  value : l.value ≡ l.circuit.inputs + l.gate-index;
  first : length l.shifting.first.items ≡ l.value;
  second : length l.shifting.second.items ≡ l.value;
  used : length l.shifting.tape + draws_from g.row.N (drop l.gate-index l.circuit.gates) ≡ length l.tape;
  walked : Walked (wires_of l.circuit g.row.N l.placed) g.row.N (drop l.gate-index l.circuit.gates) l.value l.shifting.first.items l.shifting.second.items l.tape
      l.shifting.tape (shift_from (wires_of l.circuit g.row.N l.placed) g.row.N l.circuit.gates l.circuit.inputs (start bits (input_shares g.row.N l.x)) (start bits (input_shares g.row.N l.y)) l.tape);
}
