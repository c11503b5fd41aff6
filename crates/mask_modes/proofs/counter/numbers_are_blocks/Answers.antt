use Rattle.mask_modes.proofs.Numbers.{numbers_are_blocks}
use Rattle.mask_modes.proofs.counter.numbers_are_blocks.Goals as goal

pub returns : goal.returns
returns c = numbers_are_blocks
