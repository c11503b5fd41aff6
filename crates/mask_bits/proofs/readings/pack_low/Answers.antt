use Rattle.std.proofs.Common.{◌≡◌, ◌<◌, length, take, ap, ◌∙◌, arith}
use Rattle.std.proofs.lemmas.List.{take_more_set}
use Rattle.std.proofs.Math.Seq.{take-length}
use Rattle.mask_bits.proofs.Bytes.{packed_none, packed_more, packed_all}
use Rattle.mask_bits.proofs.readings.pack_low.Goals as goal

pub loop-k-init : goal.loop-k-init
loop-k-init c = rw c.as_slice-rest.ensures (record { packed = packed_none c.args.bits.now; left = omega arith })

pub loop-k-preserved : goal.loop-k-preserved
loop-k-preserved c =
    let count = c.requires in
    let some : 0 < length c.loop-k.rest.now = omega (arith, c.loop-k.invariant.left) in
    let within : c.loop-k.k < length c.loop-k.bytes = omega arith in
    record {
      packed = rw (take_more_set c.loop-k.bytes c.loop-k.k c.byte_of.result within)
          (packed_more _ _ _ _ _ _ _ c.loop-k.invariant.packed some c.min.ensures c.split_at.ensures.front c.split_at.ensures.back c.byte_of.ensures);
      left = omega (arith, c.loop-k.invariant.left, c.min.ensures, c.split_at.ensures.back_len);
    }

pub returns : goal.returns
returns c =
    let count = c.requires in
    let end : c.loop-k.k ≡ length c.loop-k.bytes = omega arith in
    let whole = ap (λ n. take n c.loop-k.bytes) end ∙ take-length c.loop-k.bytes in
    rw whole at (packed_all _ _ _ c.loop-k.invariant.packed (omega (arith, c.loop-k.invariant.left)))
