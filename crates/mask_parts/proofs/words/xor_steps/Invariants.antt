use Rattle.std.proofs.Common.{◌≡◌, ℕ, ◌+◌, ◌<◌, length, get_or}
use Rattle.mask_parts.specs.declared.tables.Place.TheVariants.{Given}
use Rattle.mask_parts.specs.declared.tables.Step.TheVariants.{Xor}
use Rattle.mask_parts.proofs.words.xor_steps.Given as goal

abbrev pub invariant-loop-i : goal.invariant-loop-i
invariant-loop-i l =
    (length l.steps ≡ 32) × ((k : ℕ) → k < l.i → get_or l.steps k (Xor (Given 0) (Given 0)) ≡ Xor (Given k) (Given (32 + k)))
