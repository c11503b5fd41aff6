use Rattle.std.proofs.Common.{◌≡◌, take}
use Rattle.mask_bits.specs.Reading.{low}
use Rattle.mask_bits.proofs.readings.bits_low_first.Given as goal

abbrev pub invariant-loop-byte : goal.invariant-loop-byte
invariant-loop-byte l = l.bits ≡ low (take l.byte-index l.bytes)
