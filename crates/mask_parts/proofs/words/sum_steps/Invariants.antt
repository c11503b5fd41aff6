use Rattle.std.proofs.Common.{◌≡◌, ◌-◌, ◌*◌, ◌++◌, length, take}
use Rattle.mask_parts.specs.Words32.{ripple, sum32_steps}
use Rattle.mask_parts.proofs.words.sum_steps.Given as goal

-- the steps of the bits from bit i on are left
abbrev pub invariant-loop-i : goal.invariant-loop-i
invariant-loop-i l = (length l.steps ≡ 154) × (take (5 * l.i - 3) l.steps ++ ripple (31 - l.i) l.i (6 * l.i - 4) ≡ sum32_steps)
