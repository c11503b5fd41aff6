use Rattle.std.proofs.Common.{bit_and}
use Rattle.std.specs.Int.Bits.{and_lt}
use Rattle.mask_check.proofs.Words.{HasBit-and, HasBit-common, trailing_bit, trailing_lowest}
use Rattle.mask_check.proofs.marks.lowest_common.Goals as goal

pub returns-clause-on_left : goal.returns-clause-on_left
returns-clause-on_left c few =
    let both = bit_and c.args.left c.args.right in
    (HasBit-and c.args.left c.args.right _ (trailing_bit both (and_lt 64 _ _ c.ranges.left.fits c.ranges.right.fits) few)).0

pub returns-clause-on_right : goal.returns-clause-on_right
returns-clause-on_right c few =
    let both = bit_and c.args.left c.args.right in
    (HasBit-and c.args.left c.args.right _ (trailing_bit both (and_lt 64 _ _ c.ranges.left.fits c.ranges.right.fits) few)).1

pub returns-clause-lowest : goal.returns-clause-lowest
returns-clause-lowest c source j on_left on_right =
    trailing_lowest (bit_and c.args.left c.args.right) j (and_lt 64 _ _ c.ranges.left.fits c.ranges.right.fits)
    (HasBit-common c.args.left c.args.right j on_left on_right)
