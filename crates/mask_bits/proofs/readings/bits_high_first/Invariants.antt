use Rattle.std.proofs.Common.{◌≡◌, map}
use Rattle.mask_bits.specs.Reading.{low}
use Rattle.mask_bits.proofs.readings.bits_high_first.Given as goal

abbrev pub invariant-loop-byte : goal.invariant-loop-byte
invariant-loop-byte l = l.bits ≡ low (map (λ byte. byte.now) l.yielded)
