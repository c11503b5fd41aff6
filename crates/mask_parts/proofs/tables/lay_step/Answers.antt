use Rattle.mask_circuit.specs.declared.gates.Gate.TheVariants.{Xor, Not}
use Rattle.mask_parts.proofs.Laying.{IsWithinLimits-circuit, Lays-from_gate}
use Rattle.mask_parts.proofs.tables.lay_step.Goals as goal

pub returns-in-Xor : goal.returns-in-Xor
returns-in-Xor c =
    let b = c.args.b.now in
    rw (c.in-Xor.is, ← c.value_of.ensures, ← c.value_of-in-Xor.ensures)
    (Lays-from_gate b (Xor c.value_of.result c.value_of-in-Xor.result) c.xor.new.self c.xor.result (IsWithinLimits-circuit b c.values-values.ensures.circuit)
    c.xor.ensures.made c.xor.ensures.full c.xor.ensures.same)

pub returns-in-Not : goal.returns-in-Not
returns-in-Not c =
    let b = c.args.b.now in
    rw (c.in-Not.is, ← c.value_of-in-Not.ensures)
    (Lays-from_gate b (Not c.value_of-in-Not.result) c.not.new.self c.not.result (IsWithinLimits-circuit b c.values-values.ensures.circuit)
    c.not.ensures.made c.not.ensures.full c.not.ensures.same)
