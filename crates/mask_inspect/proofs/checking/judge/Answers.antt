use Rattle.std.proofs.Common.{subst}
use Rattle.mask_circuit.specs.Netlist.{Netlist}
use Rattle.mask_circuit.specs.Acceptance.{IsAccepted}
use Rattle.mask_check.specs.Security.{IsNIAtEachOrder}
use Rattle.mask_inspect.specs.Checking.{SaysStrong, check_line}
use Rattle.mask_inspect.proofs.checking.judge.Goals as goal

pub returns-in-Ok-line_of-clause-ok : goal.returns-in-Ok-line_of-clause-ok
returns-in-Ok-line_of-clause-ok g c =
    let same = c.in-Ok.ensures.same in
    let line = c.in-Ok-line_of.line.items in
    let counts = check_line c.values-values.result c.products-products.result c.refreshes-refreshes.result in
    let says = subst (λ (n : Netlist). SaysStrong n counts line) same c.in-Ok-line_of.ensures in
    record {
      accepted = subst (λ (n : Netlist). IsAccepted n) same c.in-Ok.ensures.accepted;
      secure = subst (λ (n : Netlist). IsNIAtEachOrder n) same c.in-Ok.ensures.secure;
      says = rw (c.values-values.ensures.count, c.products-products.ensures, c.refreshes-refreshes.ensures) at says;
    }
