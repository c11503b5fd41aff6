use Rattle.mask_modes.proofs.Encrypting.{steps_encrypt}
use Rattle.mask_modes.proofs.counter.steps_encrypt.Goals as goal

pub returns : goal.returns
returns c = steps_encrypt
