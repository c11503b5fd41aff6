use Rattle.std.proofs.Common.{[]}
use Rattle.mask_eval.proofs.tests.listed.Goals as goal

pub report-requires-clause-ready : goal.report-requires-clause-ready
report-requires-clause-ready c = ([], c.in_ok-room.ensures.ready [] c.new-watch.ensures.blank)
