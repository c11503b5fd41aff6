use Rattle.std.proofs.Common.{◌^◌, arith}
use Rattle.mask_bits.proofs.Places.{width_of, shifted_one, above}
use Rattle.mask_bits.proofs.Exchange.{exchanged_low, exchanged_high}
use Rattle.mask_bits.proofs.square.exchanged_row.Goals as goal

pub bounds-rows-i-then-i-digit-eq0 : goal.bounds-rows-i-then-i-digit-eq0
bounds-rows-i-then-i-digit-eq0 c =
    let one = shifted_one c.args.digit c.requires.digit in
    rw one.0 (above (2 ^ c.args.digit) (width_of c.args.digit c.requires.digit) c.args.i c.requires.row c.if-i-digit-eq0.true)

pub overflow_shl-result : goal.overflow_shl-result
overflow_shl-result c = let one = shifted_one c.args.digit c.requires.digit in rw one.0 one.1

pub returns-then-i-digit-eq0 : goal.returns-then-i-digit-eq0
returns-then-i-digit-eq0 c =
    rw (shifted_one c.args.digit c.requires.digit).0
    (exchanged_low (2 ^ c.args.digit) c.args.mask c.args.i c.args.rows.now (width_of c.args.digit c.requires.digit) c.requires.mask
    c.if-i-digit-eq0.true)

pub returns-else-i-digit-eq0 : goal.returns-else-i-digit-eq0
returns-else-i-digit-eq0 c =
    rw (shifted_one c.args.digit c.requires.digit).0
    (exchanged_high (2 ^ c.args.digit) c.args.mask c.args.i c.args.rows.now (width_of c.args.digit c.requires.digit) c.requires.mask c.ranges.mask.fits
    (omega (arith, c.if-i-digit-eq0.false)))
