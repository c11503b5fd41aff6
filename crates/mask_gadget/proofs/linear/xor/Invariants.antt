use Rattle.std.proofs.Common.{◌+◌, ◌≤◌, map, get_or, bit_xor}
use Rattle.mask_gadget.proofs.Telling.{MadeTo}
use Rattle.mask_gadget.proofs.linear.xor.Given as goal

abbrev pub invariant-loop-i : goal.invariant-loop-i
invariant-loop-i g l = record {
  parts : MadeTo g.W.Wiring.carried g.row.N (λ k. bit_xor (get_or (map g.W.Wiring.carried l.x) k 0) (get_or (map g.W.Wiring.carried l.y) k 0)) l.i l.out
      (g.W.Wiring.told l.fn.wires) (g.W.Wiring.told l.wires);
  room : g.W.Wiring.room l.fn.wires ≤ g.W.Wiring.room l.wires + l.i;
}
