use Rattle.mask_bits.proofs.Numbers.{pushed_more}
use Rattle.mask_bits.proofs.readings.push_byte.Goals as goal

pub loop-place-preserved : goal.loop-place-preserved
loop-place-preserved c = pushed_more _ _ _ c.loop-place.place c.args.byte _ c.loop-place.invariant c.bit_of.ensures c.in_ok-push.ensures.ok
