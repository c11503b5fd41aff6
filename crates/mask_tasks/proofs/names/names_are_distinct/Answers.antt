use Rattle.mask_tasks.proofs.Distinct.{distinct}
use Rattle.mask_tasks.proofs.names.names_are_distinct.Goals as goal

pub returns : goal.returns
returns c = distinct
