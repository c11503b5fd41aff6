use Rattle.mask_laws.proofs.RunNeeds.{strong_runs_grow}
use Rattle.mask_laws.proofs.runs.strong_runs_grow.Goals as goal

pub returns : goal.returns
returns c = strong_runs_grow
