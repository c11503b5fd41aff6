use Rattle.std.proofs.Common.{◌≡◌, ◌+◌, ◌-◌}
use Rattle.mask_check.specs.Batches.{IsBatch}
use Rattle.mask_check.proofs.batches.next_batch.Given as goal

abbrev pub invariant-loop-batch : goal.invariant-loop-batch
invariant-loop-batch g l =
    IsBatch l.circuit l.batch l.left l.right × (l.batch.from ≡ l.from) × (l.steps + l.from ≡ l.initial.steps + l.batch.until)

abbrev pub decreases-loop-batch : goal.decreases-loop-batch
decreases-loop-batch g l = l.values - l.batch.until
