use Rattle.std.proofs.Common.{◌≡◌, ◌+◌}
use Rattle.mask_check.proofs.Passing.{HasCome}
use Rattle.mask_check.proofs.backward.pass.Given as goal

abbrev pub invariant-loop-value : goal.invariant-loop-value
invariant-loop-value g l =
    HasCome l.circuit l.initial.left l.initial.right l.left l.right l.value l.lowest × (l.steps + l.value ≡ l.initial.steps + l.until)

abbrev pub decreases-loop-value : goal.decreases-loop-value
decreases-loop-value g l = l.value
