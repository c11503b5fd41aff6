use Rattle.std.proofs.Common.{◌≡◌, ◌*◌, take}
use Rattle.std.specs.List.{concat}
use Rattle.mask_eval.proofs.words.write_shares.Given as goal

abbrev pub invariant-loop-k : goal.invariant-loop-k
invariant-loop-k g l = take (g.row.N * l.k) l.words ≡ concat (take l.k l.values)
