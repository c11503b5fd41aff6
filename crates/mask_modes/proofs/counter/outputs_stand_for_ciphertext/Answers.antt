use Rattle.mask_modes.proofs.HandedOut.{outputs_stand_for_ciphertext}
use Rattle.mask_modes.proofs.counter.outputs_stand_for_ciphertext.Goals as goal

pub returns : goal.returns
returns c = outputs_stand_for_ciphertext
