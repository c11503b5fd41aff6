use Rattle.mask_modes.proofs.Readings.{bytes_are_read}
use Rattle.mask_modes.proofs.counter.bytes_are_read.Goals as goal

pub returns : goal.returns
returns c = bytes_are_read
