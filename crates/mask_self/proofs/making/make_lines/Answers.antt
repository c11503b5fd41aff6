use Rattle.std.proofs.Common.{rules}
use Rattle.mask_self.proofs.Keys.{lines_made}
use Rattle.mask_self.proofs.making.make_lines.Goals as goal

pub returns-clause-lines : goal.returns-clause-lines
returns-clause-lines c =
    let cut = c.cut.ensures in
    lines_made c.args.generator.now c.args.count _ c.fill.new.room c.cut.result c.requires.some c.fill.ensures.bytes (search rules) cut.bytes cut.count cut.lines
