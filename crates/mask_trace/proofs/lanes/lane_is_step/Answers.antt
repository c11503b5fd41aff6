use Rattle.mask_trace.proofs.SideBySide.{lane_is_step}
use Rattle.mask_trace.proofs.lanes.lane_is_step.Goals as goal

pub returns : goal.returns
returns c = lane_is_step
