use Rattle.std.proofs.Common.{◌≡◌, ℕ, suc, ◌+◌, ◌-◌, ◌*◌, ◌≤◌, map}
use Rattle.mask_circuit.specs.Ring.{words}
use Rattle.mask_circuit.specs.Wires.{Shares, joined, product_wire}
use Rattle.mask_laws.specs.Names.{pairs_before}
use Rattle.mask_gadget.specs.Wiring.{told_more, cell, IsSquare}
use Rattle.mask_gadget.specs.Gadgets.{IsAtRow, Mixed, pair_coin, pair_row}
use Rattle.mask_gadget.proofs.product.mix.Given as goal

abbrev pub invariant-loop-i : goal.invariant-loop-i
invariant-loop-i g l = record {
  square : IsSquare g.row.N l.terms;
  cells : (a b : Shares ℕ) → Mixed g.row.N a b (pair_coin g.row.N (g.W.Wiring.drawn l.fn.coins)) 0 1 (cell g.W.Wiring.carried l.fn.terms) →
      Mixed g.row.N a b (pair_coin g.row.N (g.W.Wiring.drawn l.fn.coins)) l.i (suc l.i) (cell g.W.Wiring.carried l.terms);
  told : (a b : Shares ℕ) → Mixed g.row.N a b (pair_coin g.row.N (g.W.Wiring.drawn l.fn.coins)) 0 1 (cell g.W.Wiring.carried l.fn.terms) →
      g.W.Wiring.told l.wires ≡ told_more (g.W.Wiring.told l.fn.wires)
      (map (product_wire words g.row.N a b (pair_coin g.row.N (g.W.Wiring.drawn l.fn.coins))) (joined (λ i. pair_row i (g.row.N - suc i)) l.i));
  room : g.W.Wiring.room l.fn.wires ≤ g.W.Wiring.room l.wires + 3 * pairs_before g.row.N l.i;
  at : IsAtRow g.row.N l.i (g.W.Wiring.drawn l.fn.coins) (g.W.Wiring.drawn l.coins);
}
