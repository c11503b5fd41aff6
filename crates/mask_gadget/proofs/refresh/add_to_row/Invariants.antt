use Rattle.std.proofs.Common.{◌≡◌, ℕ, suc, ◌+◌, ◌-◌, ◌*◌, ◌≤◌, map}
use Rattle.mask_circuit.specs.Ring.{words}
use Rattle.mask_circuit.specs.Wires.{refresh_wire}
use Rattle.mask_tape.specs.Drawn.{Drawn}
use Rattle.mask_gadget.specs.Wiring.{told_more}
use Rattle.mask_gadget.specs.Gadgets.{IsAtRow, RowsDone, pair_coin, update_row}
use Rattle.mask_gadget.proofs.Refreshes.{ColumnsDone}
use Rattle.mask_gadget.proofs.refresh.add_to_row.Given as goal

abbrev pub invariant-loop-j : goal.invariant-loop-j
invariant-loop-j g l = record {
  told : (a : ℕ → ℕ) (first : Drawn) → IsAtRow g.row.N l.i first (g.W.Wiring.drawn l.fn.coins) →
      RowsDone g.row.N a (pair_coin g.row.N first) l.i (map g.W.Wiring.carried l.fn.parts) →
      g.W.Wiring.told l.wires ≡ told_more (g.W.Wiring.told l.fn.wires)
      (map (refresh_wire words g.row.N a (pair_coin g.row.N first)) (update_row g.row.N l.i (l.j - suc l.i)));
  room : g.W.Wiring.room l.fn.wires ≤ g.W.Wiring.room l.wires + 3 * (l.j - suc l.i);
  used : (g.W.Wiring.drawn l.coins).used ≡ (g.W.Wiring.drawn l.fn.coins).used + (l.j - suc l.i);
  same : (g.W.Wiring.drawn l.coins).words ≡ (g.W.Wiring.drawn l.fn.coins).words;
  parts : (a : ℕ → ℕ) (first : Drawn) → IsAtRow g.row.N l.i first (g.W.Wiring.drawn l.fn.coins) →
      RowsDone g.row.N a (pair_coin g.row.N first) l.i (map g.W.Wiring.carried l.fn.parts) →
      ColumnsDone g.row.N a (pair_coin g.row.N first) l.i (suc l.i + (l.j - suc l.i)) (map g.W.Wiring.carried l.parts);
}
