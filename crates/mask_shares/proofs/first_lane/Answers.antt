use Rattle.mask_shares.proofs.Lanes.{lowest_in_all}
use Rattle.mask_shares.proofs.first_lane.Goals as goal

pub returns : goal.returns
returns c = λ l lt. lowest_in_all c.args.word l lt
