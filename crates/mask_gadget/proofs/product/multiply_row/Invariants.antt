use Rattle.std.proofs.Common.{◌+◌, ◌≤◌, map, get_or, bit_and}
use Rattle.mask_gadget.proofs.Telling.{MadeTo}
use Rattle.mask_gadget.proofs.product.multiply_row.Given as goal

abbrev pub invariant-loop-j : goal.invariant-loop-j
invariant-loop-j g l = record {
  row : MadeTo g.W.Wiring.carried g.row.N (λ j. bit_and (g.W.Wiring.carried l.share) (get_or (map g.W.Wiring.carried l.y) j 0)) l.j l.row
      (g.W.Wiring.told l.fn.wires) (g.W.Wiring.told l.wires);
  room : g.W.Wiring.room l.fn.wires ≤ g.W.Wiring.room l.wires + l.j;
}
