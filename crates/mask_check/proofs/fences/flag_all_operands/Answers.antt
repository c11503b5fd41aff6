use Rattle.std.proofs.Common.{arith}
use Rattle.mask_check.proofs.Flagging.{FlagsOperands-step}
use Rattle.mask_check.proofs.Passing.{operands_in}
use Rattle.mask_check.proofs.fences.flag_all_operands.Goals as goal

pub flag_operands-requires : goal.flag_operands-requires
flag_operands-requires c =
    operands_in c.args.circuit.now _ c.loop-value.value _ c.values-value-end.ensures.circuit (omega (arith, c.values-value-end.ensures.count))
    c.loop-value.invariant.size c.gate_at.ensures

pub loop-value-preserved : goal.loop-value-preserved
loop-value-preserved c =
    FlagsOperands-step c.args.circuit.now c.loop-value.value _ c.loop-value.flags _ c.values-value-end.ensures.circuit
    (omega (arith, c.values-value-end.ensures.count)) c.gate_at.ensures c.flag_operands.ensures c.loop-value.invariant
