use Rattle.std.proofs.Common.{◌≡◌, ◌≤◌, length, take}
use Rattle.mask_bits.specs.Lanes.{lane}
use Rattle.mask_tape.specs.Drawn.{left}
use Rattle.mask_keys.proofs.split.bits_of.Given as goal

abbrev pub invariant-loop-bits : goal.invariant-loop-bits
invariant-loop-bits l = record {
  same : l.coins.words ≡ l.initial.coins.words;
  within : l.coins.used ≤ length l.coins.words;
  done : l.bits.items ≡ lane 0 (take l.coins.used l.coins.words);
}

abbrev pub decreases-loop-bits : goal.decreases-loop-bits
decreases-loop-bits l = left l.coins
