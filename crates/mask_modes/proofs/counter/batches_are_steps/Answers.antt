use Rattle.mask_modes.proofs.Batches.{batches_are_steps}
use Rattle.mask_modes.proofs.counter.batches_are_steps.Goals as goal

pub returns : goal.returns
returns c = batches_are_steps
