use Rattle.mask_streams.proofs.Plans.{runs_are_private}
use Rattle.mask_streams.proofs.laws.runs_are_private.Goals as goal

pub returns : goal.returns
returns c = runs_are_private
