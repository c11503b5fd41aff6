use Rattle.mask_laws.proofs.Strengthening.{gadgets_are_sni}
use Rattle.mask_laws.proofs.gadgets.gadgets_are_sni.Goals as goal

pub returns : goal.returns
returns c = gadgets_are_sni
