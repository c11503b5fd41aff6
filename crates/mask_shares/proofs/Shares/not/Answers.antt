use Rattle.mask_shares.proofs.Sums.{complement}
use Rattle.mask_shares.proofs.Shares.not.Goals as goal

pub returns : goal.returns
returns g c = let ones = c.public.ensures in let sum = c.xor.ensures in rw (sum, ones) (complement g.row.N c.args.self)
