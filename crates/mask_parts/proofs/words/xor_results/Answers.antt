use Rattle.std.proofs.Common.{◌+◌, rules, ◌∙◌}
use Rattle.std.proofs.lemmas.List.FromFn.{fill_by_all}
use Rattle.mask_parts.proofs.Xoring.{xor32_results-bits}
use Rattle.mask_parts.proofs.words.xor_results.Goals as goal

pub returns : goal.returns
returns c = fill_by_all (λ k. c.args.first + k) c.loop-i.results 32 0 c.loop-i.invariant.0 (search rules) ∙ xor32_results-bits c.args.first
