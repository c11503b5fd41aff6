use Rattle.std.proofs.Common.{◌≡◌, ℕ, ◌+◌, ◌/◌, ◌%◌, ◌<◌, length, get_or}
use Rattle.mask_counter.proofs.Counted.{counter_byte}
use Rattle.mask_counter.proofs.words.counter_bytes.Given as goal

abbrev pub invariant-loop-at : goal.invariant-loop-at
invariant-loop-at l = record {
  count : length l.bytes ≡ 1024;
  made : (k : ℕ) → k < l.at → get_or l.bytes k 0 ≡ counter_byte l.block l.iv (l.first + k / l.block) (k % l.block);
}
