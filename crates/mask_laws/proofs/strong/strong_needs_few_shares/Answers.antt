use Rattle.mask_laws.proofs.Strengthening.{strong_need}
use Rattle.mask_laws.proofs.strong.strong_needs_few_shares.Goals as goal

pub returns : goal.returns
returns c = strong_need
