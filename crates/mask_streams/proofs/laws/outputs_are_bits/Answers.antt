use Rattle.mask_streams.proofs.HandedOut.{outputs_are_bits}
use Rattle.mask_streams.proofs.laws.outputs_are_bits.Goals as goal

pub returns : goal.returns
returns c = outputs_are_bits
