use Rattle.mask_check.specs.Fencing.{FencesBefore}
use Rattle.mask_check.proofs.fences.find_gap.Given as goal

abbrev pub invariant-loop-place : goal.invariant-loop-place
invariant-loop-place l = FencesBefore l.circuit l.place l.flags
