use Rattle.std.proofs.Common.{◌≡◌, take}
use Rattle.mask_bits.specs.Reading.{big_endian}
use Rattle.mask_self.proofs.making.big_endian.Given as goal

abbrev pub invariant-loop-byte : goal.invariant-loop-byte
invariant-loop-byte l = l.number ≡ big_endian (take l.byte-index l.bytes)
