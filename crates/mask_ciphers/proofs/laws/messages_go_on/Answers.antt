use Rattle.mask_ciphers.proofs.Writing.{messages_go_on}
use Rattle.mask_ciphers.proofs.laws.messages_go_on.Goals as goal

pub returns : goal.returns
returns c = messages_go_on
