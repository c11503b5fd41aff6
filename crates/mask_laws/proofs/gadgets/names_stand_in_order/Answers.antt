-- The parts of the lists come one after another, each of a known length.
use Rattle.mask_laws.proofs.LocalNumbers.{names_in_order}
use Rattle.mask_laws.proofs.gadgets.names_stand_in_order.Goals as goal

pub returns : goal.returns
returns c = names_in_order
