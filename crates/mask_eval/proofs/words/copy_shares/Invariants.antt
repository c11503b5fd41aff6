use Rattle.std.proofs.Common.{◌≡◌, ◌+◌, ◌++◌, take}
use Rattle.mask_eval.proofs.words.copy_shares.Given as goal

abbrev pub invariant-loop-k : goal.invariant-loop-k
invariant-loop-k g l = take (l.start + l.k) l.values ≡ take l.start l.fn.values ++ take l.k l.shares
