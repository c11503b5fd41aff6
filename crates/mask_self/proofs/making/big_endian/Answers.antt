use Rattle.std.proofs.Common.{get_or, refl, arith, rules}
use Rattle.mask_self.proofs.Keys.{big_endian-next}
use Rattle.mask_self.proofs.making.big_endian.Goals as goal

pub overflow_mul-number : goal.overflow_mul-number
overflow_mul-number c =
    let next = big_endian-next c.args.bytes.now c.loop-byte.byte-index c.loop-byte.number (get_or c.args.bytes.now c.loop-byte.byte-index 0)
    (λ i. omega (arith, c.type_inv.bytes i)) c.requires c.loop-byte-test.true c.loop-byte.invariant refl in
    omega (arith, next.1)

pub overflow_add-number : goal.overflow_add-number
overflow_add-number c =
    let next = big_endian-next c.args.bytes.now c.loop-byte.byte-index c.loop-byte.number c.from.result
    (λ i. omega (arith, c.type_inv.bytes i)) c.requires c.loop-byte-test.true c.loop-byte.invariant (search rules) in
    omega (arith, next.1)

pub loop-byte-preserved : goal.loop-byte-preserved
loop-byte-preserved c =
    let next = big_endian-next c.args.bytes.now c.loop-byte.byte-index c.loop-byte.number c.from.result
    (λ i. omega (arith, c.type_inv.bytes i)) c.requires c.loop-byte-test.true c.loop-byte.invariant (search rules) in
    next.0
