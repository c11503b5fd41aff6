use Rattle.std.proofs.Common.{◌∙◌}
use Rattle.mask_secrets.specs.KeyEnds.{Does}
use Rattle.mask_secrets.proofs.Stopping.{KeyEnds-stopped}
use Rattle.mask_secrets.proofs.splitting.split.Goals as goal

pub returns-in-Err-clause-ends : goal.returns-in-Err-clause-ends
returns-in-Err-clause-ends g c =
    let taken = c.in-Err.ensures.err in
    (taken.0, taken.1, KeyEnds-stopped 1 _ _ taken.0 _ _ taken.2)

pub returns-clause-ends : goal.returns-clause-ends
returns-clause-ends g c =
    let taken = c.in-Ok.ensures.ok in
    let key = c.new-key.ensures ∙ c.line.ensures.line in
    (taken.0, taken.1, Does c.in-Ok.lines taken.2.at_end taken.2.within taken.2.file (rw key at c.split_alone.ensures.splits))
