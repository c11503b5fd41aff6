use Rattle.std.proofs.Common.{rules, ap, ◌∙◌}
use Rattle.mask_bits.specs.Reading.{number}
use Rattle.mask_circuit.specs.declared.gates.Gate.TheVariants.{And}
use Rattle.mask_circuit.specs.Wires.{product_names}
use Rattle.mask_laws.proofs.Symmetry.{mask_is_symmetric}
use Rattle.mask_sni.specs.Asked.{operand_shares, in_places, wires_at}
use Rattle.mask_sni.proofs.Keeping.{product_mask_keeps}
use Rattle.mask_sni.proofs.shifts.and_shift.Goals as goal

pub returns-clause-mask : goal.returns-clause-mask
returns-clause-mask g c = search rules

pub returns-clause-symmetric : goal.returns-clause-symmetric
returns-clause-symmetric g c =
    returns-clause-mask g c
    ∙ ap number
    (mask_is_symmetric g.row.N (And 0 1) (wires_at (product_names g.row.N) c.args.probes.now.items) (in_places c.args.outputs.now.items)
    (operand_shares c.args.a c.args.b) (operand_shares c.args.a2 c.args.b2))

pub returns-clause-keeps : goal.returns-clause-keeps
returns-clause-keeps g c left right =
    product_mask_keeps g.row.N c.args.a c.args.b c.args.a2 c.args.b2 c.args.probes.now.items c.args.outputs.now.items _
    c.requires.some c.requires.asked (returns-clause-mask g c) left right
