use Rattle.std.proofs.Common.{◌≡◌, ◌+◌, ◌++◌, take}
use Rattle.mask_eval.proofs.words.write_value.Given as goal

abbrev pub invariant-loop-i : goal.invariant-loop-i
invariant-loop-i g l = take (l.start + l.i) l.words ≡ take l.start l.fn.words ++ take l.i l.value
