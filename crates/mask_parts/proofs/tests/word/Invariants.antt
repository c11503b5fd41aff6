use Rattle.std.proofs.Common.{◌≡◌, ◌<◌, All, length}
use Rattle.mask_parts.proofs.tests.word.Given as goal

abbrev pub invariant-loop-i : goal.invariant-loop-i
invariant-loop-i l = (length l.values ≡ 32) × All (λ u. u < 64) l.values
