use Rattle.mask_inspect.proofs.Deciding.{text_is_one, first_failure_is_one, none_fails}
use Rattle.mask_inspect.proofs.laws.checks_decide.Goals as goal

pub returns-clause-one : goal.returns-clause-one
returns-clause-one c = first_failure_is_one c.text_or_fault.ensures c.clash_is_unique.ensures c.clash_refutes.ensures

pub returns-clause-none : goal.returns-clause-none
returns-clause-none c = none_fails c.text_or_fault.ensures c.clash_is_unique.ensures c.clash_refutes.ensures

pub returns-clause-text : goal.returns-clause-text
returns-clause-text c = text_is_one c.text_or_fault.ensures
