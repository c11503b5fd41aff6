use Rattle.mask_modes.proofs.TapeBits.{run_bits}
use Rattle.mask_modes.proofs.counter.run_bits.Goals as goal

pub returns : goal.returns
returns c = run_bits
