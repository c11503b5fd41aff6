use Rattle.std.proofs.Common.{◌≡◌, ℕ, ◌+◌, ◌-◌, ◌*◌, ◌<◌, ◌≤◌, false, get_or}
use Rattle.mask_bits.specs.Reading.{bit, low}
use Rattle.mask_tape.proofs.spreading.spread.Given as goal

abbrev pub invariant-loop-first : goal.invariant-loop-first
invariant-loop-first l = record {
  bound : l.first ≤ l.bits;
  used : (k m : ℕ) → k < l.first → m < l.lanes → bit m (get_or l.words k 0) ≡ get_or (low l.bytes) (l.at + m * l.bits + k) false;
  unused : (k m : ℕ) → k < l.first → l.lanes ≤ m → m < 64 → bit m (get_or l.words k 0) ≡ false;
}

abbrev pub decreases-loop-first : goal.decreases-loop-first
decreases-loop-first l = l.bits - l.first
