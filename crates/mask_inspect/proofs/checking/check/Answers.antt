use Rattle.std.proofs.Common.{[], ◌∷◌, inl, inr, refl}
use Rattle.mask_inspect.specs.Checks.{Grammar, Acceptance}
use Rattle.mask_inspect.specs.Ends.{Does}
use Rattle.mask_inspect.proofs.Stopping.{Ends-stopped, Ends-unadmitted, CostsAtMost-read}
use Rattle.mask_inspect.proofs.checking.check.Goals as goal

pub returns-in-Err-clause-ends : goal.returns-in-Err-clause-ends
returns-in-Err-clause-ends g c =
    let taken = c.in-Err.ensures.err in
    (taken.0, taken.1, (Ends-stopped (Grammar ∷ []) (Acceptance ∷ []) _ taken.0 _ _ taken.2, inl refl))

pub returns-in-Ok-judge-clause-ends : goal.returns-in-Ok-judge-clause-ends
returns-in-Ok-judge-clause-ends g c =
    let taken = c.in-Ok.ensures.ok in
    let read = taken.2 in
    let judged = c.in-Ok-judge.ensures.ok in (
      taken.0,
      taken.1,
      (
        Does read.at_end read.within ((_, read.is_text), ((_, read.is_text, judged.accepted), tt))
            (record { circuit = _; line = _; is_text = read.is_text; judged = judged; written = rw c.deref.ensures.value at c.send.ensures.writes }),
        CostsAtMost-read _ _ _ taken.0 _ _ read c.judge.ensures.steps,
      ),
    )

pub returns-in-Err-judge-clause-ends : goal.returns-in-Err-judge-clause-ends
returns-in-Err-judge-clause-ends g c =
    let taken = c.in-Ok.ensures.ok in
    let read = taken.2 in (
      taken.0,
      taken.1,
      (Ends-unadmitted _ _ taken.0 _ _ _ read (λ s h. inr ((_, read.is_text), h)) c.in-Err-judge.ensures.err, CostsAtMost-read _ _ _ taken.0 _ _ read c.judge.ensures.steps),
    )
