use Rattle.std.proofs.Common.{◌≡◌, List, [], ◌∷◌, ◌++◌, IfErr, OnOk, refl, subst, sym, arith}
use Rattle.mask_tape.specs.declared.tape.TapeError.TheVariants as TapeError
use Rattle.mask_trace.specs.Steps.{Step}
use Rattle.mask_trace.specs.Drawing.{Ran, stand}
use Rattle.mask_chain.specs.Evaluations.{step}
use Rattle.mask_chain.specs.Chains.{Stopped, have}
use Rattle.mask_tagging.proofs.ChaskeyEvaluations.{start_is, start_suits, suits_behind}
use Rattle.mask_tagging.proofs.ChaskeyPieces.{start_ahead}
use Rattle.mask_tagging.proofs.chaskey_runs.take_behind.Goals as goal

pub take_two-requires : goal.take_two-requires
take_two-requires g c = (
  omega arith,
  (
    omega arith,
    (
      c.requires.some,
      (
        c.requires.few,
        (
          start_suits _ _ c.args.start.now _ c.requires.start refl refl refl refl c.requires.key,
          (suits_behind _ c.args.start.now c.args.part.now c.args.own.now c.requires.start c.requires.key c.requires.suits, c.requires.kept),
        ),
      ),
    ),
  ),
)

pub returns-then-fed-eq0-clause-ran : goal.returns-then-fed-eq0-clause-ran
returns-then-fed-eq0-clause-ran g c =
    let Did : List Step → Type 0 = λ (steps : List Step).
    OnOk c.take_two.result (Ran g.row.N (have c.args.chain.now) steps (have c.take_two.new.self)
    (stand c.args.tape.now (g.E.Entropy.left c.args.entropy.now) (g.W.Watch.told c.args.watch.now))
    (stand c.take_two.new.tape (g.E.Entropy.left c.take_two.new.entropy) (g.W.Watch.told c.take_two.new.watch))) in
    let own = step c.args.part.now c.args.own.now in
    subst (λ (ahead : List Step). Did (ahead ++ own ∷ [])) (sym (start_ahead c.args.fed (omega arith)))
    (subst (λ (first : Step). Did (first ∷ own ∷ [])) (start_is c.args.start.now c.requires.start) c.take_two.ensures.ran)

pub returns-then-fed-eq0-clause-stopped : goal.returns-then-fed-eq0-clause-stopped
returns-then-fed-eq0-clause-stopped g c =
    let Did : List Step → Type 0 = λ (ahead : List Step).
    IfErr c.take_two.result (λ e. e ≡ TapeError.Failed →
    Stopped g.row.N (have c.args.chain.now) (have c.take_two.new.self) ahead (step c.args.part.now c.args.own.now) (g.E.Entropy.wanted c.take_two.new.entropy)
    c.args.steps.now c.take_two.new.steps
    (stand c.args.tape.now (g.E.Entropy.left c.args.entropy.now) (g.W.Watch.told c.args.watch.now))
    (stand c.take_two.new.tape (g.E.Entropy.left c.take_two.new.entropy) (g.W.Watch.told c.take_two.new.watch))) in
    subst Did (sym (start_ahead c.args.fed (omega arith)))
    (subst (λ (first : Step). Did (first ∷ [])) (start_is c.args.start.now c.requires.start) c.take_two.ensures.stopped)
