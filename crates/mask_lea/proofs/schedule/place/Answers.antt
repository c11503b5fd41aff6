use Rattle.std.proofs.Common.{refl}
use Rattle.mask_lea.specs.Lea.{place}
use Rattle.mask_lea.proofs.schedule.place.Goals as goal

pub returns : goal.returns
unfolding place
returns c = rw (c.turns.ensures, c.words.ensures) refl
