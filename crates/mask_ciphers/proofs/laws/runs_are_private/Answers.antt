use Rattle.mask_ciphers.proofs.Breaking.{runs_are_private}
use Rattle.mask_ciphers.proofs.laws.runs_are_private.Goals as goal

pub returns : goal.returns
returns c = runs_are_private
