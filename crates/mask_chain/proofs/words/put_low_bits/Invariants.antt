use Rattle.std.proofs.Common.{◌≡◌, take}
use Rattle.mask_bits.specs.Lanes.{lane}
use Rattle.mask_bits.specs.Reading.{low}
use Rattle.mask_chain.proofs.words.put_low_bits.Given as goal

abbrev pub invariant-loop-j : goal.invariant-loop-j
invariant-loop-j l = lane 0 (take l.j l.words) ≡ take l.j (low l.bytes)
