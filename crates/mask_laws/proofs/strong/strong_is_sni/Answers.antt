use Rattle.mask_laws.proofs.Strengthening.{strong_is_sni}
use Rattle.mask_laws.proofs.strong.strong_is_sni.Goals as goal

pub returns : goal.returns
returns c = strong_is_sni
