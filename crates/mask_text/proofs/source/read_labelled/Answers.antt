use Rattle.std.proofs.Common.{refl, rules}
use Rattle.std.proofs.lemmas.Result.{err_from_is_err_and}
use Rattle.mask_circuit.specs.Labels.{LabelledNetlist}
use Rattle.mask_text.specs.Text.{IsText}
use Rattle.mask_text.proofs.Sources.{decides}
use Rattle.mask_text.proofs.source.read_labelled.Goals as goal

pub returns-in_err-text-clause-always : goal.returns-in_err-text-clause-always
returns-in_err-text-clause-always g c =
    let p = err_from_is_err_and c.from_residual.result c.from_residual.ensures.1 in
    decides (λ (l : LabelledNetlist). l) (λ l bytes. IsText bytes l) (λ l bytes text. (l, text, refl)) c.from_residual.result _
    (g.S.Source.left c.read_all.new.source)
    (rw (p.1, p.2) c.in_err-text.ensures.answer)

pub returns-clause-always : goal.returns-clause-always
returns-clause-always g c =
    decides (λ (l : LabelledNetlist). l) (λ l bytes. IsText bytes l) (λ l bytes text. (l, text, refl)) c.read_text.result _
    (g.S.Source.left c.read_all.new.source)
    (search rules)
