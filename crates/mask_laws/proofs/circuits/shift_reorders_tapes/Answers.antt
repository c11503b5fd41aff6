use Rattle.mask_laws.proofs.Seen.{shift_reorders}
use Rattle.mask_laws.proofs.circuits.shift_reorders_tapes.Goals as goal

pub returns : goal.returns
returns c = shift_reorders
