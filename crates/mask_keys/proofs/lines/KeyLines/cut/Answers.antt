use Rattle.std.proofs.Common.{◌≡◌, length, subst, sym, ap, ◌∙◌, rules}
use Rattle.std.specs.List.{concat}
use Rattle.mask_keys.specs.Lines.{AreKeyLines}
use Rattle.mask_keys.proofs.Cutting.{length-lines_of, concat-lines_of, are_key_lines}
use Rattle.mask_keys.proofs.lines.KeyLines.cut.Goals as goal

pub returns-clause-bytes : goal.returns-clause-bytes
returns-clause-bytes c =
    let kept : c.try_extend_from_slice.new.self.items ≡ c.args.bytes.now = search rules in
    ap concat c.new.ensures ∙ concat-lines_of c.args.lines _ _ (ap length kept ∙ sym c.requires.whole) ∙ kept

pub returns-clause-count : goal.returns-clause-count
returns-clause-count c = ap length c.new.ensures ∙ length-lines_of _ _ _

pub returns-clause-lines : goal.returns-clause-lines
returns-clause-lines c =
    let r = c.requires in
    let kept : c.try_extend_from_slice.new.self.items ≡ c.args.bytes.now = search rules in
    subst AreKeyLines (sym c.new.ensures) (are_key_lines _ _ _ r.some r.few r.filled r.short (ap length kept ∙ sym r.whole))
