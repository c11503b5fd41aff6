use Rattle.std.proofs.Common.{◌≡◌, ℕ, ◌+◌, ◌*◌, ◌<◌, ◌≤◌, false, get_or, length}
use Rattle.mask_bits.specs.Reading.{bit, low}
use Rattle.mask_tape.proofs.spreading.square.Given as goal

abbrev pub invariant-loop-lane : goal.invariant-loop-lane
invariant-loop-lane l = record {
  count : length l.rows ≡ 64;
  done : (m j : ℕ) → m < l.lane → j < 64 → bit j (get_or l.rows m 0) ≡ get_or (low l.bytes) (l.at + m * l.bits + j) false;
  clear : (m j : ℕ) → l.lane ≤ m → bit j (get_or l.rows m 0) ≡ false;
}
