use Rattle.mask_laws.proofs.Running.{run_needs}
use Rattle.mask_laws.proofs.runs.run_needs_few_shares.Goals as goal

pub returns : goal.returns
returns c = run_needs
