use Rattle.std.proofs.Common.{refl}
use Rattle.mask_parts.proofs.Growing.{Grows-refl}
use Rattle.mask_parts.proofs.Laying.{Lays-exit}
use Rattle.mask_trivium.specs.Clocks.{stage, with_clock}
use Rattle.mask_trivium.proofs.Clocking.{IsClock-stream}
use Rattle.mask_trivium.proofs.clock.stream_clock.Goals as goal

pub lay-requires-clause-sound : goal.lay-requires-clause-sound
lay-requires-clause-sound c = rw (c.told-state, c.stream_steps.ensures) IsClock-stream.part

pub returns-in_err-first-clause-laid : goal.returns-in_err-first-clause-laid
unfolding with_clock stage
returns-in_err-first-clause-laid c =
    Lays-exit _ c.args.b.now _ _ _ _ _ _ c.from_residual.ensures.1 (Grows-refl c.args.b.now) (Grows-refl _) (rw c.stream_steps.ensures at c.in_err-first.ensures.laid)

pub returns-clause-laid : goal.returns-clause-laid
unfolding with_clock stage
returns-clause-laid c = let laid = rw c.stream_steps.ensures at c.in_ok-first.ensures.laid in (rw laid.0 refl, laid.1, laid.2)

pub returns-clause-moved : goal.returns-clause-moved
unfolding with_clock stage
returns-clause-moved c = rw c.in_ok-first.ensures.laid.0 at c.shift.ensures
