use Rattle.mask_check.proofs.Judging.{accepted_secure}
use Rattle.mask_check.proofs.admission.Admitted.circuit.Goals as goal

pub returns-clause-circuit : goal.returns-clause-circuit
returns-clause-circuit c = (rw c.self.view_is at c.self.invariant).circuit

pub returns-clause-accepted : goal.returns-clause-accepted
returns-clause-accepted c = (rw c.self.view_is at c.self.invariant).accepted

pub returns-clause-secure : goal.returns-clause-secure
returns-clause-secure c = let is = rw c.self.view_is at c.self.invariant in accepted_secure _ is.circuit is.accepted
