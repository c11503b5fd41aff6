use Rattle.std.proofs.Common.{◌≡◌, ◌+◌, ◌≤◌, map, get_or}
use Rattle.mask_circuit.specs.Ring.{words}
use Rattle.mask_circuit.specs.Wires.{each, other, row_sum}
use Rattle.mask_gadget.specs.Wiring.{told_more}
use Rattle.mask_gadget.proofs.Rows.{partial}
use Rattle.mask_gadget.proofs.product.sum_row.Given as goal

abbrev pub invariant-loop-m : goal.invariant-loop-m
invariant-loop-m g l = record {
  sum : g.W.Wiring.carried l.sum
      ≡ partial words (get_or (map g.W.Wiring.carried l.row) l.i 0) (λ k. get_or (map g.W.Wiring.carried l.row) k 0) l.i l.m;
  told : g.W.Wiring.told l.wires ≡ told_more (g.W.Wiring.told l.fn.wires)
      (each (λ m. row_sum words (get_or (map g.W.Wiring.carried l.row) l.i 0) (λ k. get_or (map g.W.Wiring.carried l.row) k 0) l.i (other l.i m)) l.m);
  room : g.W.Wiring.room l.fn.wires ≤ g.W.Wiring.room l.wires + l.m;
}
