use Rattle.std.proofs.Common.{refl}
use Rattle.mask_parts.proofs.Growing.{Grows-refl}
use Rattle.mask_parts.proofs.Laying.{Lays-exit}
use Rattle.mask_present.specs.Rounds.{stage, key_replaced}
use Rattle.mask_present.proofs.schedule.replace_nibble.Goals as goal

pub returns-in_err-replaced-clause-laid : goal.returns-in_err-replaced-clause-laid
unfolding stage key_replaced
returns-in_err-replaced-clause-laid c =
    Lays-exit _ c.args.b.now _ _ _ _ _ _ c.from_residual.ensures.1 (Grows-refl c.args.b.now) (Grows-refl _) (rw c.nibble.ensures at c.in_err-replaced.ensures.laid)

pub returns-clause-laid : goal.returns-clause-laid
unfolding stage key_replaced
returns-clause-laid c = let laid = rw c.nibble.ensures at c.in_ok-replaced.ensures.laid in (refl, laid.1, laid.2)

pub returns-clause-replaced : goal.returns-clause-replaced
unfolding stage key_replaced
returns-clause-replaced c = rw (c.set_nibble.ensures, c.in_ok-replaced.ensures.laid.0) refl
