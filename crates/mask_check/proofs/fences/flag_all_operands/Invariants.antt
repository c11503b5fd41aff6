use Rattle.mask_check.specs.Fencing.{FlagsOperands}
use Rattle.mask_check.proofs.fences.flag_all_operands.Given as goal

abbrev pub invariant-loop-value : goal.invariant-loop-value
invariant-loop-value l = FlagsOperands l.circuit l.value l.flags
