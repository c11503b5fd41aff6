use Rattle.std.proofs.Common.{◌+◌, rules}
use Rattle.std.proofs.lemmas.List.FromFn.{fill_by_all}
use Rattle.mask_parts.specs.Words32.{sum_place, sum32_results}
use Rattle.mask_parts.proofs.words.sum_results.Goals as goal

pub returns : goal.returns
unfolding sum32_results
returns c = fill_by_all (λ k. c.args.first + sum_place k) c.loop-i.results 32 0 c.loop-i.invariant.0 (search rules)
