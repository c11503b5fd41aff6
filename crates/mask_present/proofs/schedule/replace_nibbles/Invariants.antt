use Rattle.mask_present.proofs.Updates.{HasReplaced}
use Rattle.mask_present.proofs.schedule.replace_nibbles.Given as goal

abbrev pub invariant-loop-at : goal.invariant-loop-at
invariant-loop-at l = HasReplaced l.fn.b l.b l.fn.key l.key l.places l.at-index
