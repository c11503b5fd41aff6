use Rattle.mask_laws.proofs.Symmetry.{mask_is_symmetric}
use Rattle.mask_laws.proofs.Seen.{shift_returns}
use Rattle.mask_laws.proofs.circuits.shift_returns.Goals as goal

pub returns : goal.returns
returns c = shift_returns mask_is_symmetric
