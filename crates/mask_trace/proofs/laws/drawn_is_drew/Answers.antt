use Rattle.mask_trace.proofs.Drawing.{drawn_is_drew}
use Rattle.mask_trace.proofs.laws.drawn_is_drew.Goals as goal

pub returns : goal.returns
returns c = drawn_is_drew
