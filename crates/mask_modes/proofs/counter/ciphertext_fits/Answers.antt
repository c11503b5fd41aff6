use Rattle.mask_modes.proofs.Keystreams.{ciphertext_fits}
use Rattle.mask_modes.proofs.counter.ciphertext_fits.Goals as goal

pub returns : goal.returns
returns c = ciphertext_fits
