use Rattle.mask_ciphers.proofs.Writing.{pieces_are_written}
use Rattle.mask_ciphers.proofs.laws.pieces_are_written.Goals as goal

pub returns : goal.returns
returns c = pieces_are_written
