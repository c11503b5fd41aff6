use Rattle.mask_laws.proofs.Refuting.{handed_on_is_not_sni}
use Rattle.mask_laws.proofs.refutations.handed_on_is_not_sni.Goals as goal

pub returns : goal.returns
returns c = handed_on_is_not_sni
