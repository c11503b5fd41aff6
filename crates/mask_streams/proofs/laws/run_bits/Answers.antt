use Rattle.mask_streams.proofs.TapeBits.{run_bits}
use Rattle.mask_streams.proofs.laws.run_bits.Goals as goal

pub returns : goal.returns
returns c = run_bits
