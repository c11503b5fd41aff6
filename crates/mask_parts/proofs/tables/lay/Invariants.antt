use Rattle.std.proofs.Common.{drop}
use Rattle.mask_parts.specs.Tables.{with_part}
use Rattle.mask_parts.proofs.PartLaying.{IsPartUnderWay}
use Rattle.mask_parts.proofs.tables.lay.Given as goal

abbrev pub invariant-loop-step : goal.invariant-loop-step
invariant-loop-step l = IsPartUnderWay l.fn.b l.b l.first l.operands (drop l.step-index l.steps) (with_part l.fn.b l.operands l.steps)
