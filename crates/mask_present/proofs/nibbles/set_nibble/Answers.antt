use Rattle.std.proofs.Common.{◌≡◌, length, arith, rules}
use Rattle.mask_present.proofs.Stretches.{put_mid-stretch}
use Rattle.mask_present.proofs.nibbles.set_nibble.Goals as goal

pub returns : goal.returns
returns c =
    let four : length c.args.nibble ≡ 4 = search rules in
    put_mid-stretch c.args.at _ c.args.values.now _ c.args.nibble c.copy_from_slice.ensures.after (omega arith)
