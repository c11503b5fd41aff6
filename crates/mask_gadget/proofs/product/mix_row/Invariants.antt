use Rattle.std.proofs.Common.{◌≡◌, ℕ, suc, ◌+◌, ◌-◌, ◌*◌, ◌≤◌, map}
use Rattle.mask_circuit.specs.Ring.{words}
use Rattle.mask_circuit.specs.Wires.{Shares, product_wire}
use Rattle.mask_tape.specs.Drawn.{Drawn}
use Rattle.mask_gadget.specs.Wiring.{told_more, cell, IsSquare}
use Rattle.mask_gadget.specs.Gadgets.{IsAtRow, Mixed, pair_coin, pair_row}
use Rattle.mask_gadget.proofs.product.mix_row.Given as goal

abbrev pub invariant-loop-j : goal.invariant-loop-j
invariant-loop-j g l = record {
  square : IsSquare g.row.N l.terms;
  cells : (a b : Shares ℕ) (first : Drawn) → IsAtRow g.row.N l.i first (g.W.Wiring.drawn l.fn.coins) →
      Mixed g.row.N a b (pair_coin g.row.N first) l.i (suc l.i) (cell g.W.Wiring.carried l.fn.terms) →
      Mixed g.row.N a b (pair_coin g.row.N first) l.i l.j (cell g.W.Wiring.carried l.terms);
  told : (a b : Shares ℕ) (first : Drawn) → IsAtRow g.row.N l.i first (g.W.Wiring.drawn l.fn.coins) →
      Mixed g.row.N a b (pair_coin g.row.N first) l.i (suc l.i) (cell g.W.Wiring.carried l.fn.terms) →
      g.W.Wiring.told l.wires ≡ told_more (g.W.Wiring.told l.fn.wires)
      (map (product_wire words g.row.N a b (pair_coin g.row.N first)) (pair_row l.i (l.j - suc l.i)));
  room : g.W.Wiring.room l.fn.wires ≤ g.W.Wiring.room l.wires + 3 * (l.j - suc l.i);
  used : (g.W.Wiring.drawn l.coins).used ≡ (g.W.Wiring.drawn l.fn.coins).used + (l.j - suc l.i);
  same : (g.W.Wiring.drawn l.coins).words ≡ (g.W.Wiring.drawn l.fn.coins).words;
}
