use Rattle.std.proofs.Common.{arith, refl, subst}
use Rattle.mask_parts.specs.Drafts.{IsWithinLimits}
use Rattle.mask_parts.proofs.Laying.{IsWithinLimits-circuit, IsRefused-within}
use Rattle.mask_present.proofs.Updates.{HasReplaced-none, HasReplaced-more, HasReplaced-all, rest-replaced}
use Rattle.mask_present.proofs.schedule.replace_nibbles.Goals as goal

pub loop-at-init : goal.loop-at-init
loop-at-init c = HasReplaced-none c.args.b.now c.args.key.now c.args.places.now (IsWithinLimits-circuit c.args.b.now c.values-values.ensures.circuit) c.requires.known

pub replace_nibble-requires-clause-known : goal.replace_nibble-requires-clause-known
replace_nibble-requires-clause-known c = c.loop-at.invariant.known

pub returns-in-Err-clause-laid : goal.returns-in-Err-clause-laid
returns-in-Err-clause-laid c =
    IsRefused-within _ c.loop-at.b _ _ _ _ c.loop-at.invariant.begun
    (rest-replaced c.args.b.now c.loop-at.b c.args.key.now c.loop-at.key c.args.places.now c.loop-at.at-index (omega arith) c.loop-at.invariant)
    c.in-Err.ensures.laid

pub loop-at-preserved : goal.loop-at-preserved
loop-at-preserved c =
    HasReplaced-more c.args.b.now c.loop-at.b c.args.key.now c.loop-at.key c.args.places.now c.loop-at.at-index (omega arith) c.loop-at.invariant
    _ _ c.in-Ok.ensures.laid.1 c.in-Ok.ensures.replaced c.replace_nibble.auto.key c.in-Ok.ensures.laid.2

pub returns-clause-laid : goal.returns-clause-laid
returns-clause-laid c =
    let all = HasReplaced-all c.args.b.now c.loop-at.b c.args.key.now c.loop-at.key c.args.places.now c.loop-at.at-index (omega arith) c.loop-at.invariant in
    (refl, all.0, subst IsWithinLimits all.0 c.loop-at.invariant.within)

pub returns-clause-replaced : goal.returns-clause-replaced
returns-clause-replaced c =
    (HasReplaced-all c.args.b.now c.loop-at.b c.args.key.now c.loop-at.key c.args.places.now c.loop-at.at-index (omega arith) c.loop-at.invariant).1
