use Rattle.mask_check.proofs.Judging.{strong_secure}
use Rattle.mask_check.proofs.strong.Strong.admitted.Goals as goal

pub returns-clause-strong : goal.returns-clause-strong
returns-clause-strong c = (rw c.self.view_is at c.circuit-circuit.ensures.accepted, rw c.self.view_is at c.self.invariant)

pub returns-clause-secure : goal.returns-clause-secure
returns-clause-secure c =
    strong_secure _ (rw c.self.view_is at c.circuit-circuit.ensures.circuit)
    (rw c.self.view_is at c.circuit-circuit.ensures.accepted, rw c.self.view_is at c.self.invariant)
