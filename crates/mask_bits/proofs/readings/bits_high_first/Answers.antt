use Rattle.std.proofs.Common.{◌≡◌, ◌∙◌, ap, arith}
use Rattle.std.proofs.lemmas.Iterator.Consumers.{YieldsList-end}
use Rattle.std.proofs.lemmas.Iterator.Adapters.{YieldsList-from_rev_slice}
use Rattle.std.proofs.lemmas.Grind.{common_steps}
use Rattle.mask_bits.specs.Reading.{low, high}
use Rattle.mask_bits.proofs.Bytes.{low-push, number-high}
use Rattle.mask_bits.proofs.readings.bits_high_first.Goals as goal

pub loop-byte-preserved : goal.loop-byte-preserved
loop-byte-preserved c = grind (arith, common_steps, low-push, c.in_ok-push_byte.ensures, c.loop-byte.invariant)

pub returns-clause-weights : goal.returns-clause-weights
returns-clause-weights c =
    let all =
    YieldsList-end (YieldsList-from_rev_slice c.args.bytes.now (cc)) c.loop-byte.yielded _ c.loop-byte.yielded_by _ _ c.in-None.is c.next.ensures.steps in
    let read : c.loop-byte.bits ≡ high c.args.bytes.now = c.loop-byte.invariant ∙ ap low all.0 in
    rw read (number-high c.args.bytes.now (λ k. (c.type_inv.bytes k).fits))
