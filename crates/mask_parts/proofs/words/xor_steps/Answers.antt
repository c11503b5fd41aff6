use Rattle.std.proofs.Common.{◌+◌, rules}
use Rattle.std.proofs.lemmas.List.FromFn.{fill_by_all}
use Rattle.mask_parts.specs.declared.tables.Place.TheVariants.{Given}
use Rattle.mask_parts.specs.declared.tables.Step.TheVariants.{Xor}
use Rattle.mask_parts.specs.Words32.{xor32_steps}
use Rattle.mask_parts.proofs.words.xor_steps.Goals as goal

pub returns : goal.returns
unfolding xor32_steps
returns c = fill_by_all (λ k. Xor (Given k) (Given (32 + k))) c.loop-i.steps 32 (Xor (Given 0) (Given 0)) c.loop-i.invariant.0 (search rules)
