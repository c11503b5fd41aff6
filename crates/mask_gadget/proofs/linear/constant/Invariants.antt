use Rattle.std.proofs.Common.{◌+◌, ◌≤◌}
use Rattle.mask_circuit.specs.Ring.{words}
use Rattle.mask_circuit.specs.Wires.{on_first}
use Rattle.mask_gadget.proofs.Telling.{MadeTo}
use Rattle.mask_gadget.proofs.linear.constant.Given as goal

abbrev pub invariant-loop-i : goal.invariant-loop-i
invariant-loop-i g l = record {
  parts : MadeTo g.W.Wiring.carried g.row.N (on_first words l.word) l.i l.out (g.W.Wiring.told l.fn.wires) (g.W.Wiring.told l.wires);
  room : g.W.Wiring.room l.fn.wires ≤ g.W.Wiring.room l.wires + l.i;
}
