use Rattle.std.proofs.Common.{◌≡◌, suc, ◌+◌, ◌-◌, ◌*◌, ◌≤◌, map}
use Rattle.mask_circuit.specs.Ring.{words}
use Rattle.mask_circuit.specs.Wires.{joined, refresh_wire}
use Rattle.mask_laws.specs.Names.{pairs_before}
use Rattle.mask_shares.specs.Sharing.{listed}
use Rattle.mask_gadget.specs.Wiring.{told_more}
use Rattle.mask_gadget.specs.Gadgets.{IsAtRow, RowsDone, pair_coin, update_row}
use Rattle.mask_gadget.proofs.refresh.refresh.Given as goal

abbrev pub invariant-loop-i : goal.invariant-loop-i
invariant-loop-i g l = record {
  told : g.W.Wiring.told l.wires ≡ told_more (g.W.Wiring.told l.fn.wires)
      (map (refresh_wire words g.row.N (listed words (map g.W.Wiring.carried l.x)) (pair_coin g.row.N (g.W.Wiring.drawn l.fn.coins)))
      (joined (λ k. update_row g.row.N k (g.row.N - suc k)) l.i));
  room : g.W.Wiring.room l.fn.wires ≤ g.W.Wiring.room l.wires + 3 * pairs_before g.row.N l.i;
  at : IsAtRow g.row.N l.i (g.W.Wiring.drawn l.fn.coins) (g.W.Wiring.drawn l.coins);
  parts : RowsDone g.row.N (listed words (map g.W.Wiring.carried l.x)) (pair_coin g.row.N (g.W.Wiring.drawn l.fn.coins)) l.i (map g.W.Wiring.carried l.out);
}
