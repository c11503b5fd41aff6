use Rattle.std.proofs.Common.{add-one, ap, ◌∙◌}
use Rattle.mask_keys.specs.Files.{line_text}
use Rattle.mask_secrets.specs.KeyEnds.{Does}
use Rattle.mask_secrets.proofs.Stopping.{KeyEnds-stopped}
use Rattle.mask_secrets.proofs.joining.join.Goals as goal

pub returns-in-Err-clause-ends : goal.returns-in-Err-clause-ends
returns-in-Err-clause-ends g c =
    let taken = c.in-Err.ensures.err in
    (taken.0, taken.1, KeyEnds-stopped _ _ _ taken.0 _ _ (rw add-one at taken.2))

pub returns-clause-ends : goal.returns-clause-ends
returns-clause-ends g c =
    let taken = c.in-Ok.ensures.ok in
    let read = rw add-one at taken.2 in
    let text = c.as_slice.ensures.value ∙ c.line_text-text.ensures ∙ ap line_text c.join_key.ensures in
    (taken.0, taken.1, Does c.in-Ok.lines read.at_end read.within read.file (rw text at c.send.ensures.writes))
