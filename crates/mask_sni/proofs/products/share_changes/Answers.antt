use Rattle.std.proofs.Common.{arith, ◌∙◌, ap₂}
use Rattle.mask_circuit.specs.Value.{xor}
use Rattle.mask_circuit.specs.Shift.{Sides, product_change, product_base, cross_change}
use Rattle.mask_sni.specs.Asked.{operand_sides}
use Rattle.mask_sni.proofs.Sums.{all_columns, column_more, xor_code}
use Rattle.mask_sni.proofs.products.share_changes.Goals as goal

pub loop-k-preserved : goal.loop-k-preserved
loop-k-preserved c =
    let a : Sides = operand_sides c.args.a in
    let b : Sides = operand_sides c.args.b in
    let more = column_more (product_change a b c.args.i c.args.i) (cross_change a b (product_base c.args.wires.now a b) c.args.i) c.args.i c.loop-k.k in
    xor_code _ _ ∙ ap₂ xor c.loop-k.invariant c.column_changes-changes.ensures ∙ more

pub returns : goal.returns
returns c =
    let a : Sides = operand_sides c.args.a in
    let b : Sides = operand_sides c.args.b in
    c.loop-k.invariant
    ∙ all_columns (product_change a b c.args.i c.args.i) (cross_change a b (product_base c.args.wires.now a b) c.args.i)
    c.args.i c.args.n c.loop-k.k c.requires.some (omega arith)
