use Rattle.mask_laws.proofs.Reaching.{tidy_accepted}
use Rattle.mask_laws.proofs.bridges.tidy_accepted.Goals as goal

pub returns : goal.returns
returns c = tidy_accepted
