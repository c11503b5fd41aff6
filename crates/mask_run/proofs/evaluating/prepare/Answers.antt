use Rattle.std.proofs.Common.{ℕ, [], ◌∷◌, refl, subst, sym, inl, inr}
use Rattle.mask_circuit.specs.Netlist.{Netlist}
use Rattle.mask_words.specs.Naming.{hex_bytes}
use Rattle.mask_inspect.specs.Checks.{Grammar, Inputs, Acceptance, FitInputs}
use Rattle.mask_inspect.specs.Ends.{Fails, IsRead}
use Rattle.mask_inspect.proofs.Stopping.{Ends-stopped, Ends-unadmitted}
use Rattle.mask_run.specs.Hexadecimal.{IsInputOf}
use Rattle.mask_run.proofs.evaluating.prepare.Goals as goal

pub returns-in-Err-clause-err : goal.returns-in-Err-clause-err
returns-in-Err-clause-err g c =
    let taken = c.in-Err.ensures.err in
    (taken.0, taken.1, (Ends-stopped (Grammar ∷ []) (Inputs c.args.hex.now ∷ Acceptance ∷ []) _ taken.0 _ _ taken.2, inl refl))

pub returns-in-Ok-None-clause-err : goal.returns-in-Ok-None-clause-err
returns-in-Ok-None-clause-err g c =
    let taken = c.in-Ok.ensures.ok in
    let read = taken.2 in
    let misfit = subst (λ (n : ℕ). FitInputs (hex_bytes c.args.hex.now) n → ⊥) c.inputs.ensures (rw c.in-Ok-None.field-0-is at c.in-Ok-None.ensures) in
    (taken.0, taken.1, (Fails read.at_end read.within (inr ((_, read.is_text), inl (refl, (_, read.is_text, misfit)))), inl refl))

pub returns-in-Ok-admitted-clause-ok : goal.returns-in-Ok-admitted-clause-ok
returns-in-Ok-admitted-clause-ok g c =
    let taken = c.in-Ok.ensures.ok in
    let same = sym c.in-Ok-admitted.ensures.same in
    let is = rw c.in-Ok-Some.field-0-is at c.in-Ok-Some.ensures in
    let input = subst (λ (n : ℕ). IsInputOf c.args.hex.now n c.in-Ok-Some.inputs) c.inputs.ensures is in (
      taken.0,
      taken.1,
      (
        record {
          read = subst (λ (n : Netlist). IsRead taken.0 (g.S.Source.left c.read.new.input) n) same taken.2;
          accepted = c.in-Ok-admitted.ensures.accepted;
          is_input = subst (λ (n : Netlist). IsInputOf c.args.hex.now n.inputs c.in-Ok-Some.inputs) same input;
        },
        rw c.in-Ok-admitted.ensures.same c.admitted.ensures.steps,
      ),
    )

pub returns-in-Err-admitted-clause-err : goal.returns-in-Err-admitted-clause-err
returns-in-Err-admitted-clause-err g c =
    let taken = c.in-Ok.ensures.ok in
    let read = taken.2 in
    let is = rw c.in-Ok-Some.field-0-is at c.in-Ok-Some.ensures in
    let input = subst (λ (n : ℕ). IsInputOf c.args.hex.now n c.in-Ok-Some.inputs) c.inputs.ensures is in (
      taken.0,
      taken.1,
      (
        Ends-unadmitted _ _ taken.0 _ _ _ read (λ s h. inr ((_, read.is_text), inr ((_, read.is_text, input.fit), h))) c.in-Err-admitted.ensures.err,
        inr (_, read, c.admitted.ensures.steps),
      ),
    )
