use Rattle.std.proofs.Common.{◌≡◌, ◌+◌, ◌*◌, ◌%◌, ◌^◌, ◌<◌, Bool, true, false, length, take, ◌∙◌, ap, refl, if◌then◌else◌, arith}
use mir.Val.{bool_byte}
use Rattle.std.proofs.Math.Seq.{take-length}
use Rattle.mask_bits.specs.Reading.{lowest, number}
use Rattle.mask_bits.proofs.Numbers.{byte_more, lowest-number}
use Rattle.mask_bits.proofs.readings.byte_of.Goals as goal

-- a bit as a byte
weight_of : (b : Bool) → bool_byte b ≡ (if b then 1 else 0)
weight_of true = refl
weight_of false = refl

-- the byte after the next bit
more : (c : goal.After-from)
    → (c.loop-place.byte + c.from.result * 2 ^ c.loop-place.place % 256 ≡ number (take (c.loop-place.place + 1) c.args.bits.now))
    × (number (take (c.loop-place.place + 1) c.args.bits.now) < 256)
more c =
    byte_more c.args.bits.now c.loop-place.place c.loop-place.byte c.from.result c.loop-place-test.true c.requires c.loop-place.invariant
    (c.from.ensures ∙ weight_of _)

pub overflow_add-byte : goal.overflow_add-byte
overflow_add-byte c = let next = more c in omega (arith, next.0, next.1)

pub loop-place-preserved : goal.loop-place-preserved
loop-place-preserved c = (more c).0

pub returns : goal.returns
returns c =
    let end : c.loop-place.place ≡ length c.args.bits.now = omega arith in
    let whole : c.loop-place.byte ≡ number c.args.bits.now =
    c.loop-place.invariant ∙ ap (λ n. number (take n c.args.bits.now)) end ∙ ap number (take-length c.args.bits.now) in
    ap (lowest 8) whole ∙ lowest-number 8 c.args.bits.now c.requires
