use Rattle.mask_laws.proofs.Gates.{gate_keeps}
use Rattle.mask_laws.proofs.Seen.{shift_keeps}
use Rattle.mask_laws.proofs.circuits.shift_keeps_what_is_seen.Goals as goal

pub returns : goal.returns
returns c = shift_keeps gate_keeps
