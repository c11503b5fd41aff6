use Rattle.mask_ciphers.proofs.Writing.{ciphers_go_on}
use Rattle.mask_ciphers.proofs.laws.ciphers_go_on.Goals as goal

pub returns : goal.returns
returns c = ciphers_go_on
