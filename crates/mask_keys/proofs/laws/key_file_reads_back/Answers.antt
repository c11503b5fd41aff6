use Rattle.mask_keys.proofs.Returning.{reads_back}
use Rattle.mask_keys.proofs.laws.key_file_reads_back.Goals as goal

pub returns : goal.returns
returns c = reads_back
