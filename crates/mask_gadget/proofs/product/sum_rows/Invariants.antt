use Rattle.std.proofs.Common.{◌≡◌, ℕ, suc, ◌+◌, ◌-◌, ◌*◌, ◌<◌, ◌≤◌, length, map, get_or}
use Rattle.mask_circuit.specs.Ring.{words}
use Rattle.mask_circuit.specs.declared.gates.Wire.TheVariants.{Share}
use Rattle.mask_circuit.specs.Wires.{Shares, joined, product_wire}
use Rattle.mask_gadget.specs.Wiring.{told_more, cell}
use Rattle.mask_gadget.specs.Gadgets.{Mixed, row_names}
use Rattle.mask_gadget.proofs.product.sum_rows.Given as goal

abbrev pub invariant-loop-i : goal.invariant-loop-i
invariant-loop-i g l = record {
  count : length l.out ≡ g.row.N;
  shares : (a b : Shares ℕ) (r : ℕ → ℕ → ℕ) → Mixed g.row.N a b r g.row.N (suc g.row.N) (cell g.W.Wiring.carried l.terms) →
      (k : ℕ) → k < l.i → get_or (map g.W.Wiring.carried l.out) k 0 ≡ product_wire words g.row.N a b r (Share k);
  told : (a b : Shares ℕ) (r : ℕ → ℕ → ℕ) → Mixed g.row.N a b r g.row.N (suc g.row.N) (cell g.W.Wiring.carried l.terms) →
      g.W.Wiring.told l.wires ≡ told_more (g.W.Wiring.told l.fn.wires) (map (product_wire words g.row.N a b r) (joined (row_names g.row.N) l.i));
  room : g.W.Wiring.room l.fn.wires ≤ g.W.Wiring.room l.wires + l.i * (g.row.N - 1);
}
