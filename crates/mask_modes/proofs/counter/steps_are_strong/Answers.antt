use Rattle.mask_modes.proofs.Plans.{steps_are_strong}
use Rattle.mask_modes.proofs.counter.steps_are_strong.Goals as goal

pub returns : goal.returns
returns c = steps_are_strong
