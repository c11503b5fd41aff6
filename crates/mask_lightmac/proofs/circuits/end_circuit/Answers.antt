use Rattle.mask_lightmac.proofs.Concluding.{IsWithinLimits-named_end}
use Rattle.mask_lightmac.proofs.circuits.end_circuit.Goals as goal

pub unreachable-requires-in-Err-TooManyValues : goal.unreachable-requires-in-Err-TooManyValues
unreachable-requires-in-Err-TooManyValues c =
    c.in-Err-TooManyValues.ensures.too_many c.in-Err-TooManyValues.field-0-is (IsWithinLimits-named_end c.args.size)
