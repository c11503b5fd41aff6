use Rattle.mask_parts.proofs.circuits.strong_circuit.Goals as goal

pub unreachable-requires : goal.unreachable-requires
unreachable-requires g c =
    let clash = rw c.in-Err-Refused.field-0-is at c.in-Err-Refused.ensures.refused in
    c.requires.0 _ _ clash.shared

pub unreachable-requires-in-Err-NotFenced : goal.unreachable-requires-in-Err-NotFenced
unreachable-requires-in-Err-NotFenced g c =
    let gap = rw (c.in-Err-NotFenced.field-0-is, c.in-Ok.ensures.admitted) at c.in-Err-NotFenced.ensures.refused in
    gap.gap (c.requires.1 _ gap.within)
