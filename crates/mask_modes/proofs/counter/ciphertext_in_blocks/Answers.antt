use Rattle.mask_modes.proofs.CiphertextBlocks.{ciphertext_in_blocks}
use Rattle.mask_modes.proofs.counter.ciphertext_in_blocks.Goals as goal

pub returns : goal.returns
returns c = ciphertext_in_blocks
