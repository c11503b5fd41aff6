use Rattle.mask_trace.proofs.Computing.{traces_are_evaluations}
use Rattle.mask_trace.proofs.values.traces_are_evaluations.Goals as goal

pub returns : goal.returns
returns c = traces_are_evaluations
