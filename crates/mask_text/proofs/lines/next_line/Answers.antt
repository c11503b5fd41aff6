use Rattle.std.proofs.Common.{◌<◌, length, arith}
use Rattle.mask_text.proofs.Pieces.{lines_cut, lines_none}
use Rattle.mask_text.proofs.lines.next_line.Goals as goal

pub returns-then-length-eq0 : goal.returns-then-length-eq0
returns-then-length-eq0 c = lines_none _ c.if-length-eq0.true

pub returns : goal.returns
returns c =
    let some : 0 < length c.args.text.now = omega arith in
    (lines_cut _ _ _ some c.cut.ensures, c.cut.ensures.shorter some)
