use Rattle.std.proofs.Common.{ap, slice_index, ◌%◌}
use Rattle.mask_lea.specs.Lea.{deltas, delta}
use Rattle.mask_lea.proofs.schedule.delta.Goals as goal

pub returns : goal.returns
unfolding delta deltas
returns c = ap (λ n. slice_index deltas (c.args.i % n)) c.words.ensures
