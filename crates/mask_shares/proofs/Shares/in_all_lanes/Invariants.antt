use Rattle.std.proofs.Common.{◌≡◌, ℕ, ◌<◌, ◌≤◌, length, get_or}
use Rattle.mask_bits.specs.Reading.{bit}
use Rattle.mask_shares.proofs.Shares.in_all_lanes.Given as goal

abbrev pub invariant-loop-i : goal.invariant-loop-i
invariant-loop-i g l = record {
  count : length l.words ≡ length l.self;
  done : (m k : ℕ) → m < 64 → k < l.i → bit m (get_or l.words k 0) ≡ bit 0 (get_or l.self k 0);
  rest : (k : ℕ) → l.i ≤ k → get_or l.words k 0 ≡ get_or l.self k 0;
}
