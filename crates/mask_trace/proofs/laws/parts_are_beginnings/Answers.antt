use Rattle.mask_trace.proofs.Drawing.{parts_are_beginnings}
use Rattle.mask_trace.proofs.laws.parts_are_beginnings.Goals as goal

pub returns : goal.returns
returns c = parts_are_beginnings
