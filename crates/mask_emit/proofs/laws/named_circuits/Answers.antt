use Rattle.mask_emit.proofs.Naming.{named-circuits}
use Rattle.mask_emit.proofs.laws.named_circuits.Goals as goal

pub returns : goal.returns
returns c = named-circuits
