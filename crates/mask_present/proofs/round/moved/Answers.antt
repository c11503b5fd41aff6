use Rattle.std.proofs.Common.{rules, slice_index}
use Rattle.std.proofs.lemmas.List.FromFn.{fill_by_all}
use Rattle.mask_present.specs.Rounds.{source, moved}
use Rattle.mask_present.proofs.round.moved.Goals as goal

pub returns : goal.returns
unfolding moved
returns c = fill_by_all (λ i. slice_index c.args.block.now (source i)) c.loop-i.result 64 0 c.loop-i.invariant.0 (search rules)
