use Rattle.std.proofs.Common.{◌≡◌, ◌+◌, ◌*◌, ◌%◌, ◌^◌, ◌<◌, Bool, true, false, take, ◌∙◌, ap, refl, if◌then◌else◌, arith}
use mir.Val.{bool_byte}
use Rattle.mask_bits.specs.Reading.{number}
use Rattle.mask_bits.proofs.Numbers.{byte_more}
use Rattle.mask_message.proofs.Handing.{byte_bits, bit-next, bits-all, length-byte_bits}
use Rattle.mask_message.proofs.bytes.unmask_byte.Given as given
use Rattle.mask_message.proofs.bytes.unmask_byte.Goals as goal

-- a bit as a byte
weight_of : (b : Bool) → bool_byte b ≡ (if b then 1 else 0)
weight_of true = refl
weight_of false = refl

-- the byte after the next bit
more : (g : given.Over) (c : goal.After-from g)
    → (c.loop-place.value + c.from.result * 2 ^ c.loop-place.place % 256 ≡ number (take (c.loop-place.place + 1) (byte_bits c.args.session.now c.args.column c.args.byte)))
    × (number (take (c.loop-place.place + 1) (byte_bits c.args.session.now c.args.column c.args.byte)) < 256)
more g c =
    let bs = byte_bits c.args.session.now c.args.column c.args.byte in
    let size = length-byte_bits c.args.session.now c.args.column c.args.byte in
    byte_more bs c.loop-place.place c.loop-place.value c.from.result (omega arith) (omega arith) c.loop-place.invariant
    (c.from.ensures ∙ weight_of _ ∙ ap (λ (b : Bool). if b then 1 else 0)
    (bit-next c.args.session.now c.args.column c.args.byte c.loop-place.place _ _ _ c.loop-place-test.true c.out_bit.ensures c.unmask-word.ensures c.bit_of.ensures))

pub overflow_add-value : goal.overflow_add-value
overflow_add-value g c = let next = more g c in omega (arith, next.0, next.1)

pub loop-place-preserved : goal.loop-place-preserved
loop-place-preserved g c = (more g c).0

pub returns-clause-bits : goal.returns-clause-bits
returns-clause-bits g c = bits-all c.args.session.now c.args.column c.args.byte c.loop-place.place c.loop-place.value (omega arith) c.loop-place.invariant
