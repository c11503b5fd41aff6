use Rattle.std.proofs.Common.{◌≡◌, length, take}
use Rattle.mask_run.specs.Lanes.{words_of}
use Rattle.mask_run.proofs.evaluation.lane_words.Given as goal

abbrev pub invariant-loop-k : goal.invariant-loop-k
invariant-loop-k l = record {
  size : length l.words.items ≡ length l.bits;
  values : take l.k l.words.items ≡ words_of (take l.k l.bits);
}
