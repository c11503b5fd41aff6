use Rattle.std.proofs.Common.{◌≡◌, ◌==◌, length}
use Rattle.std.proofs.lemmas.Bool.{and_parts, eqb-true}
use Rattle.hex.proofs.HexLemmas.{IsOk-decode_sized}
use Rattle.mask_words.proofs.Hexadecimal.{digits_decode}
use Rattle.mask_words.specs.WordTests.{are_hex_digits}
use Rattle.mask_words.proofs.naming.seed_of.Goals as goal

pub unwrap-requires : goal.unwrap-requires
unwrap-requires c =
    let two = and_parts (length c.args.digits.now == 64) (are_hex_digits c.args.digits.now) c.requires in
    let long : length c.args.digits.now ≡ 64 = eqb-true _ _ two.0 in
    rw c.from_hex.ensures ((IsOk-decode_sized c.args.digits.now 32).1 (long, digits_decode c.args.digits.now two.1))
