use Rattle.mask_modes.proofs.Plans.{runs_are_private}
use Rattle.mask_modes.proofs.counter.runs_are_private.Goals as goal

pub returns : goal.returns
returns c = runs_are_private
