use Rattle.std.proofs.Common.{◌≡◌}
use Rattle.mask_circuit.specs.Shift.{product_change, product_base, cross_change}
use Rattle.mask_sni.specs.Asked.{operand_sides}
use Rattle.mask_sni.proofs.Sums.{sum_before}
use Rattle.mask_sni.proofs.products.share_changes.Given as goal

abbrev pub invariant-loop-k : goal.invariant-loop-k
invariant-loop-k l = l.changes ≡ sum_before (product_change (operand_sides l.a) (operand_sides l.b) l.i l.i)
    (cross_change (operand_sides l.a) (operand_sides l.b) (product_base l.wires (operand_sides l.a) (operand_sides l.b)) l.i) l.i l.k
