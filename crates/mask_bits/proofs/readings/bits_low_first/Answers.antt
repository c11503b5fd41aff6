use Rattle.std.proofs.Common.{◌≡◌, ◌∙◌, ap, length, take, arith}
use Rattle.std.proofs.Math.Seq.{take-length}
use Rattle.mask_bits.specs.Reading.{low}
use Rattle.mask_bits.proofs.Bytes.{low-more, length-low, low-place}
use Rattle.mask_bits.proofs.readings.bits_low_first.Goals as goal

-- the loop has read all bytes
whole : (c : goal.After-loop-byte) → c.loop-byte.bits ≡ low c.args.bytes.now
whole c =
    let end : c.loop-byte.byte-index ≡ length c.args.bytes.now = omega arith in
    c.loop-byte.invariant ∙ ap (λ n. low (take n c.args.bytes.now)) end ∙ ap low (take-length c.args.bytes.now)

pub loop-byte-preserved : goal.loop-byte-preserved
loop-byte-preserved c = rw (c.in_ok-push_byte.ensures, c.loop-byte.invariant, low-more c.args.bytes.now c.loop-byte.byte-index c.loop-byte-test.true)

pub returns-clause-len : goal.returns-clause-len
returns-clause-len c = rw (whole c) (length-low c.args.bytes.now)

pub returns-clause-places : goal.returns-clause-places
returns-clause-places c b i within place = rw (whole c) (low-place c.args.bytes.now b i within place)
