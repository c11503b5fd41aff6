use Rattle.mask_text.proofs.Exactly.{exactly}
use Rattle.mask_text.proofs.laws.text_or_fault.Goals as goal

pub returns : goal.returns
returns c = exactly
