use Rattle.std.proofs.Common.{◌≡◌, ◌++◌}
use Rattle.mask_bits.specs.Reading.{lowest}
use Rattle.mask_bits.proofs.readings.push_byte.Given as goal

abbrev pub invariant-loop-place : goal.invariant-loop-place
invariant-loop-place l = l.bits ≡ l.initial.bits ++ lowest l.place l.byte
