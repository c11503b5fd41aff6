use Rattle.mask_ciphers.proofs.Enciphering.{tasks_encipher}
use Rattle.mask_ciphers.proofs.laws.tasks_encipher.Goals as goal

pub returns : goal.returns
returns c = tasks_encipher
