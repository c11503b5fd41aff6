use Rattle.std.proofs.Common.{◌≡◌, ◌-◌, ◌*◌, length, take}
use Rattle.mask_bits.proofs.Bytes.{Packed}
use Rattle.mask_bits.proofs.readings.pack_low.Given as goal

abbrev pub invariant-loop-k : goal.invariant-loop-k
invariant-loop-k l = record { packed : Packed l.fn.bits l.rest (take l.k l.bytes); left : length l.rest ≡ length l.fn.bits - 8 * l.k }
