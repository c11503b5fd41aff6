use Rattle.std.proofs.Common.{◌≡◌, take}
use Rattle.mask_bits.specs.Reading.{number}
use Rattle.mask_bits.proofs.readings.byte_of.Given as goal

abbrev pub invariant-loop-place : goal.invariant-loop-place
invariant-loop-place l = l.byte ≡ number (take l.place l.bits)
