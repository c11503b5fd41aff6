use Rattle.mask_ciphers.proofs.Writing.{outputs_are_ciphertexts}
use Rattle.mask_ciphers.proofs.laws.outputs_are_ciphertexts.Goals as goal

pub returns : goal.returns
returns c = outputs_are_ciphertexts
