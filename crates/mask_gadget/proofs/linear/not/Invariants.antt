use Rattle.std.proofs.Common.{◌+◌, ◌-◌, ◌^◌, ◌≤◌, ◌==◌, cond, map, get_or, bit_xor}
use Rattle.mask_gadget.proofs.Telling.{MadeTo}
use Rattle.mask_gadget.proofs.linear.not.Given as goal

abbrev pub invariant-loop-i : goal.invariant-loop-i
invariant-loop-i g l = record {
  parts : MadeTo g.W.Wiring.carried g.row.N
      (λ k. cond (k == 0) (bit_xor (get_or (map g.W.Wiring.carried l.x) k 0) (2 ^ 64 - 1)) (get_or (map g.W.Wiring.carried l.x) k 0)) l.i l.out
      (g.W.Wiring.told l.fn.wires) (g.W.Wiring.told l.wires);
  room : g.W.Wiring.room l.fn.wires ≤ g.W.Wiring.room l.wires + l.i;
}
