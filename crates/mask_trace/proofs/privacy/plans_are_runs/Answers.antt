use Rattle.mask_trace.proofs.Showing.{plans_are_runs}
use Rattle.mask_trace.proofs.privacy.plans_are_runs.Goals as goal

pub returns : goal.returns
returns c = plans_are_runs
