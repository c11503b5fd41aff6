use Rattle.mask_tape.specs.Drawn.{left}
use Rattle.mask_tape.proofs.tests.are_coins.Given as goal

abbrev pub decreases-loop-coins : goal.decreases-loop-coins
decreases-loop-coins l = left l.coins
