use Rattle.mask_lea.proofs.Concluding.{IsWithinLimits-named}
use Rattle.mask_lea.proofs.circuits.named_circuit.Goals as goal

pub unreachable-requires-in-Err-TooManyValues : goal.unreachable-requires-in-Err-TooManyValues
unreachable-requires-in-Err-TooManyValues c =
    c.in-Err-TooManyValues.ensures.too_many c.in-Err-TooManyValues.field-0-is (IsWithinLimits-named c.args.size)
