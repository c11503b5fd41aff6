use Rattle.std.proofs.Common.{◌+◌, arith}
use Rattle.mask_circuit.proofs.Numbering.{inputs_passed, names-place, value_passed, value_within}
use Rattle.mask_circuit.proofs.circuits.Circuit.wire_place.Goals as goal

pub loop-part-init : goal.loop-part-init
loop-part-init c =
    let left = inputs_passed c.args.self.now (c.args.d + 1) c.min-value.result c.args.wire (omega arith) (omega arith) (omega arith) in
    record { within = value_within c.args.self.now (c.args.d + 1) _ _ c.args.wire (omega arith) left c.requires.wire; left = left }

pub returns-then-part-count-clause-name : goal.returns-then-part-count-clause-name
returns-then-part-count-clause-name c =
    names-place c.args.self.now (c.args.d + 1) c.loop-part.value c.loop-part.part c.args.wire c.loop-part.invariant.within (omega arith)
    c.loop-part.invariant.left

pub loop-part-preserved : goal.loop-part-preserved
loop-part-preserved c =
    let left = value_passed c.args.self.now (c.args.d + 1) c.loop-part.value c.loop-part.part c.wires_of-count.result c.args.wire c.wires_of-count.ensures.count
    (omega arith) c.loop-part.invariant.left in
    record { within = value_within c.args.self.now (c.args.d + 1) _ _ c.args.wire (omega arith) left c.requires.wire; left = left }
