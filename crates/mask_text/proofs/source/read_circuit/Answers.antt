use Rattle.std.proofs.Common.{Ok, sym}
use Rattle.std.proofs.lemmas.Result.{err_from_is_err_and}
use Rattle.mask_circuit.specs.Netlist.{Netlist}
use Rattle.mask_circuit.specs.Labels.{LabelledNetlist}
use Rattle.mask_text.specs.Text.{IsTextOf}
use Rattle.mask_text.proofs.Sources.{decides}
use Rattle.mask_text.proofs.source.read_circuit.Goals as goal

pub returns-in_err-labelled-clause-always : goal.returns-in_err-labelled-clause-always
returns-in_err-labelled-clause-always g c =
    let p = err_from_is_err_and c.from_residual.result c.from_residual.ensures.1 in
    decides (λ (l : LabelledNetlist). l.circuit) (λ (d : Netlist) bytes. IsTextOf bytes d) (λ d bytes text. text) c.from_residual.result _
    (g.S.Source.left c.read_labelled.new.source)
    (rw (p.1, p.2) c.in_err-labelled.ensures.only)

pub returns-clause-always : goal.returns-clause-always
returns-clause-always g c =
    let took = c.in_ok-labelled.ensures.only in
    decides (λ (l : LabelledNetlist). l.circuit) (λ (d : Netlist) bytes. IsTextOf bytes d) (λ d bytes text. text)
    (Ok c.into_circuit.result) _ (g.S.Source.left c.read_labelled.new.source)
    (took.0, took.1, took.2, took.3, (c.in_ok-labelled.labelled, took.4, sym c.into_circuit.ensures))
