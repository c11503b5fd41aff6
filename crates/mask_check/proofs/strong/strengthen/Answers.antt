use Rattle.std.proofs.Common.{subst}
use Rattle.mask_circuit.specs.Acceptance.{IsFenced}
use Rattle.mask_check.proofs.Judging.{strong_secure}
use Rattle.mask_check.proofs.strong.strengthen.Goals as goal

pub invariant_of-result : goal.invariant_of-result
invariant_of-result c = subst IsFenced c.circuit.ensures.same (rw c.in-Ok-None.field-0-is at c.in-Ok-None.ensures)

pub returns-in-Ok-None-clause-strong : goal.returns-in-Ok-None-clause-strong
returns-in-Ok-None-clause-strong c = (c.circuit.ensures.accepted, subst IsFenced c.circuit.ensures.same (rw c.in-Ok-None.field-0-is at c.in-Ok-None.ensures))

pub returns-in-Ok-None-clause-secure : goal.returns-in-Ok-None-clause-secure
returns-in-Ok-None-clause-secure c =
    strong_secure _ c.circuit.ensures.circuit
    (c.circuit.ensures.accepted, subst IsFenced c.circuit.ensures.same (rw c.in-Ok-None.field-0-is at c.in-Ok-None.ensures))
