use Rattle.mask_shares.proofs.Sums.{first_set}
use Rattle.mask_shares.proofs.Shares.public.Goals as goal

pub returns : goal.returns
returns g c = first_set g.row.N c.args.word c.requires.some
