use Rattle.std.proofs.Common.{◌≡◌, ℕ, ◌+◌, ◌*◌, ◌<◌, ◌≤◌, map, get_or, bit_and}
use Rattle.mask_circuit.specs.Wires.{each, joined}
use Rattle.mask_gadget.specs.Wiring.{told_more, cell, IsSquare}
use Rattle.mask_gadget.proofs.product.multiply.Given as goal

abbrev pub invariant-loop-i : goal.invariant-loop-i
invariant-loop-i g l = record {
  square : IsSquare g.row.N l.terms;
  cells : (i j : ℕ) → i < l.i → j < g.row.N → cell g.W.Wiring.carried l.terms i j
      ≡ bit_and (get_or (map g.W.Wiring.carried l.x) i 0) (get_or (map g.W.Wiring.carried l.y) j 0);
  told : g.W.Wiring.told l.wires ≡ told_more (g.W.Wiring.told l.fn.wires)
      (joined (λ i. each (λ j. bit_and (get_or (map g.W.Wiring.carried l.x) i 0) (get_or (map g.W.Wiring.carried l.y) j 0)) g.row.N) l.i);
  room : g.W.Wiring.room l.fn.wires ≤ g.W.Wiring.room l.wires + l.i * g.row.N;
}
