use Rattle.mask_trace.proofs.Inputs.{words_are_inputs}
use Rattle.mask_trace.proofs.lanes.words_are_inputs.Goals as goal

pub returns : goal.returns
returns c = words_are_inputs
