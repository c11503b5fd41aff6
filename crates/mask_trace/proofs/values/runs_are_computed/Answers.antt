use Rattle.mask_trace.proofs.Computing.{runs_are_computed}
use Rattle.mask_trace.proofs.values.runs_are_computed.Goals as goal

pub returns : goal.returns
returns c = runs_are_computed
