use Rattle.std.proofs.Common.{◌≡◌, take}
use Rattle.mask_run.proofs.hexadecimal.first_bits.Given as goal

abbrev pub invariant-loop-k : goal.invariant-loop-k
invariant-loop-k l = l.first ≡ take l.k l.bits
