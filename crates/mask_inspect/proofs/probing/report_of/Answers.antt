use Rattle.std.proofs.Common.{◌≡◌, ℕ, suc, ◌+◌, length, ap, subst, ◌∙◌, arith}
use Rattle.mask_circuit.specs.Wires.{joined}
use Rattle.mask_circuit.specs.Need.{need}
use Rattle.mask_probe.specs.Asking.{has_share}
use Rattle.mask_inspect.specs.Probing.{need_line, IsNeedReport}
use Rattle.mask_inspect.proofs.Reports.{lines-same}
use Rattle.mask_inspect.proofs.probing.report_of.Goals as goal

pub returns-clause-ok : goal.returns-clause-ok
returns-clause-ok g c =
    let more : g.row.N ≡ suc c.args.order = omega arith in
    let shares : c.args.order + 1 ≡ g.row.N = omega arith in
    let found = c.in-Ok.ensures in
    let line =
    c.in_ok-lines_of.ensures
    ∙ ap (λ (n : ℕ). joined (λ v. need_line n (has_share c.in-Ok.needs v) v) (length c.in-Ok.needs)) shares
    ∙ ap (joined (λ v. need_line g.row.N (has_share c.in-Ok.needs v) v)) found.count
    ∙ lines-same g.row.N c.args.circuit.now.inputs (has_share c.in-Ok.needs) (need c.args.circuit.now g.row.N c.args.wires.now) found.need in
    subst (λ (n : ℕ). IsNeedReport c.args.circuit.now n c.args.wires.now c.in_ok-lines_of.field-0.items) more
    (record { probes = found.asked; few_shares = found.few_shares; simulated = found.simulated; line = line })
