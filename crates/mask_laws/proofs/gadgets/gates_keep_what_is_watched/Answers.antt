-- Gate by gate: a product, a refresh, and the gates that act share by share.
use Rattle.mask_laws.proofs.Gates.{gate_keeps}
use Rattle.mask_laws.proofs.gadgets.gates_keep_what_is_watched.Goals as goal

pub returns : goal.returns
returns c = gate_keeps
