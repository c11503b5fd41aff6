use Rattle.mask_check.proofs.Judging.{verdict_secure}
use Rattle.mask_check.proofs.verdicts.check.Goals as goal

pub returns-clause-secure : goal.returns-clause-secure
returns-clause-secure g c = verdict_secure c.args.circuit.now c.judge.result c.values-values.ensures.circuit c.judge.ensures.verdict
