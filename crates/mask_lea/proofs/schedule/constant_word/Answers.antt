use Rattle.std.proofs.Common.{refl}
use Rattle.mask_lea.specs.Rounds.{constant_word}
use Rattle.mask_lea.proofs.schedule.constant_word.Goals as goal

pub returns : goal.returns
unfolding constant_word
returns c = rw (c.rot32.ensures.rotated, c.constant32.ensures.bits, c.delta.ensures) refl
