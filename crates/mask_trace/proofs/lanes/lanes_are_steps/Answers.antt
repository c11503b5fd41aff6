use Rattle.mask_trace.proofs.SideBySide.{lanes_are_steps}
use Rattle.mask_trace.proofs.lanes.lanes_are_steps.Goals as goal

pub returns : goal.returns
returns c = lanes_are_steps
