use Rattle.std.proofs.Common.{◌≡◌, take}
use Rattle.mask_bits.specs.Reading.{number}
use Rattle.mask_message.proofs.Handing.{byte_bits}
use Rattle.mask_message.proofs.bytes.unmask_byte.Given as goal

abbrev pub invariant-loop-place : goal.invariant-loop-place
invariant-loop-place g l = l.value ≡ number (take l.place (byte_bits l.fn.session l.fn.column l.fn.byte))
