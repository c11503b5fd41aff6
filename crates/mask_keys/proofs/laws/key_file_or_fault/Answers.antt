use Rattle.mask_keys.proofs.Deciding.{file_or_fault}
use Rattle.mask_keys.proofs.laws.key_file_or_fault.Goals as goal

pub returns : goal.returns
returns c = file_or_fault
