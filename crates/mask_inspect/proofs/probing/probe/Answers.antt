use Rattle.std.proofs.Common.{[], ◌∷◌, inl, inr, refl, subst, sym}
use Rattle.mask_circuit.specs.Netlist.{Netlist}
use Rattle.mask_inspect.specs.Checks.{Grammar, Acceptance, Probes}
use Rattle.mask_inspect.specs.Ends.{Does, IsRead}
use Rattle.mask_inspect.specs.Probing.{wires_of}
use Rattle.mask_inspect.proofs.Stopping.{FirstFailure-more, Ends-stopped, Ends-unadmitted, Ends-unprobed, CostsAtMost-read}
use Rattle.mask_inspect.proofs.probing.probe.Goals as goal

pub returns-in-Err-clause-ends : goal.returns-in-Err-clause-ends
returns-in-Err-clause-ends g c =
    let taken = c.in-Err.ensures.err in
    (taken.0, taken.1, (Ends-stopped (Grammar ∷ []) (Acceptance ∷ Probes c.args.order (wires_of c.args.words.now) ∷ []) _ taken.0 _ _ taken.2, inl refl))

pub returns-in-Err-admitted-clause-ends : goal.returns-in-Err-admitted-clause-ends
returns-in-Err-admitted-clause-ends g c =
    let taken = c.in-Ok.ensures.ok in
    let read = taken.2 in (
      taken.0,
      taken.1,
      (
        Ends-unadmitted _ _ taken.0 _ _ _ read (λ s h. inr ((_, read.is_text), FirstFailure-more (Acceptance ∷ []) (Probes c.args.order (wires_of c.args.words.now) ∷ []) taken.0 s h)) c.in-Err-admitted.ensures.err,
        CostsAtMost-read _ _ _ taken.0 _ _ read c.admitted.ensures.steps,
      ),
    )

pub returns-in-Ok-report-clause-ends : goal.returns-in-Ok-report-clause-ends
returns-in-Ok-report-clause-ends g c =
    let taken = c.in-Ok.ensures.ok in
    let read = taken.2 in
    let found = subst (λ (n : Netlist). IsRead taken.0 (g.S.Source.left c.read.new.input) n) (sym c.in-Ok-admitted.ensures.same) read in
    let accepted = c.in-Ok-admitted.ensures.accepted in
    let needs = c.in-Ok-report.ensures.ok in (
      taken.0,
      taken.1,
      (
        Does read.at_end read.within ((_, read.is_text), ((_, found.is_text, accepted), ((_, found.is_text, needs.probes), tt)))
            (record {
              circuit = _;
              report = _;
              is_text = found.is_text;
              accepted = accepted;
              needs = needs;
              written = rw c.deref.ensures.value at c.send.ensures.writes;
            }),
        CostsAtMost-read _ _ _ taken.0 _ _ read c.admitted.ensures.steps,
      ),
    )

pub returns-clause-ends : goal.returns-clause-ends
returns-clause-ends g c =
    let taken = c.in-Ok.ensures.ok in
    let read = taken.2 in
    let found = subst (λ (n : Netlist). IsRead taken.0 (g.S.Source.left c.read.new.input) n) (sym c.in-Ok-admitted.ensures.same) read in (
      taken.0,
      taken.1,
      (
        Ends-unprobed _ taken.0 _ c.args.order (wires_of c.args.words.now) _ _ found c.in-Ok-admitted.ensures.accepted c.in-Err-report.ensures.err,
        CostsAtMost-read _ _ _ taken.0 _ _ read c.admitted.ensures.steps,
      ),
    )
