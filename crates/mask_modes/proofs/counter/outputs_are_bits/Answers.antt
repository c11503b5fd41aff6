use Rattle.mask_modes.proofs.HandedOut.{outputs_are_bits}
use Rattle.mask_modes.proofs.counter.outputs_are_bits.Goals as goal

pub returns : goal.returns
returns c = outputs_are_bits
