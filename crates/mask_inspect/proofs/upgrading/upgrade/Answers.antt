use Rattle.std.proofs.Common.{[], ◌∷◌, refl}
use Rattle.mask_inspect.specs.Checks.{Grammar}
use Rattle.mask_inspect.specs.Ends.{Does}
use Rattle.mask_inspect.proofs.Stopping.{Stops-read, Ends-stopped}
use Rattle.mask_inspect.proofs.upgrading.upgrade.Goals as goal

pub returns-in-Ok-clause-ends : goal.returns-in-Ok-clause-ends
returns-in-Ok-clause-ends g c =
    let h = c.in-Ok.ensures.only in
    (h.0, h.1, Does h.2 h.3 ((_, (_, h.4, refl)), tt) (record { labelled = _; is_text = h.4; written = c.send_spelling.ensures.writes }))

pub returns-in-Err-clause-ends : goal.returns-in-Err-clause-ends
returns-in-Err-clause-ends g c =
    let taken = Stops-read c.in-Err.error _ _ c.in-Err.ensures.only c.read_labelled.ensures.front in
    (taken.0, taken.1, rw c.status_of.ensures (Ends-stopped (Grammar ∷ []) [] _ taken.0 _ _ taken.2))
