use Rattle.std.proofs.Common.{length, sym, ap, ◌∙◌, subst}
use Rattle.mask_keys.specs.Lines.{AreKeyLines}
use Rattle.mask_keys.proofs.Cutting.{length-lines_of, are_key_lines}
use Rattle.mask_keys.proofs.lines.KeyLines.count.Goals as goal

pub returns-clause-value : goal.returns-clause-value
returns-clause-value c =
    let s = c.self.inside in
    sym (length-lines_of s.count s.size s.bytes.items) ∙ ap length c.self.view_is

pub returns-clause-lines : goal.returns-clause-lines
returns-clause-lines c =
    let s = c.self.inside in
    let i = c.self.invariant in
    subst AreKeyLines c.self.view_is (are_key_lines s.count s.size s.bytes.items i.0 i.1 i.2 i.3 i.4)
