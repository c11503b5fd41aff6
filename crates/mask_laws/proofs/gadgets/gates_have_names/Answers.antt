-- Each name of the list has its shape, and each shape its place in the list.
use Rattle.mask_laws.proofs.Names.{gate_names-by_shape}
use Rattle.mask_laws.proofs.gadgets.gates_have_names.Goals as goal

pub returns : goal.returns
returns c = gate_names-by_shape
