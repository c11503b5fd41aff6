use Rattle.std.proofs.Common.{◌≡◌, true}
use Rattle.mask_text.specs.Lines.{words, is_passed_over}
use Rattle.mask_text.proofs.Steps.{step_over}
use Rattle.mask_text.proofs.reader.Reader.line.Goals as goal

pub returns-then-is_passed_over : goal.returns-then-is_passed_over
returns-then-is_passed_over c =
    let over : is_passed_over (words c.args.line.now) ≡ true = cc in
    (step_over _ _ over, c.requires)
