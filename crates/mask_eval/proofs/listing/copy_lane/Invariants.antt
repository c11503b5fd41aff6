use Rattle.std.proofs.Common.{◌≡◌, length, take}
use Rattle.mask_bits.specs.Lanes.{lane}
use Rattle.mask_eval.proofs.listing.copy_lane.Given as goal

abbrev pub invariant-loop-k : goal.invariant-loop-k
invariant-loop-k l = record {
  bits : take l.k l.bits ≡ lane l.l (take l.k l.words);
  count : length l.bits ≡ length l.words;
}
