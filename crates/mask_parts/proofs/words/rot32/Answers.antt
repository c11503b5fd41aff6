use Rattle.std.proofs.Common.{◌≡◌, length, rules}
use Rattle.mask_parts.specs.Words32.{rotated32}
use Rattle.mask_parts.proofs.WordNumbers.{number-rotated32}
use Rattle.mask_parts.proofs.words.rot32.Goals as goal

pub returns-clause-rotated : goal.returns-clause-rotated
unfolding rotated32
returns-clause-rotated c = let long : length c.args.x.now ≡ 32 = search rules in rw long at c.rotate_right.ensures.after

pub returns-clause-number : goal.returns-clause-number
returns-clause-number c reading =
    let long : length c.args.x.now ≡ 32 = search rules in
    rw (returns-clause-rotated c) (number-rotated32 reading c.args.k c.args.x.now c.requires long)
