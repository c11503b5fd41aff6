use Rattle.std.proofs.Common.{◌≡◌, ℕ, ◌+◌, ◌*◌, List, length, take, ap, sym, subst, ◌∙◌, arith}
use Rattle.std.proofs.lemmas.Result.{on_ok_weaker, on_err_weaker}
use Rattle.mask_tape.specs.Drawn.{Amount}
use Rattle.mask_tape.specs.Tape.{new_bytes}
use Rattle.mask_eval.specs.Evaluated.{EvaluatesInLanes}
use Rattle.mask_trace.specs.Steps.{stretch}
use Rattle.mask_chain.specs.Evaluations.{all_laid, step}
use Rattle.mask_chain.proofs.Laid.{counted, laid_parts}
use Rattle.mask_chain.proofs.Evaluated.{evaluated, stretch_is}
use Rattle.mask_chain.proofs.evaluating.evaluate_on.Goals as goal

pub lay-before-requires : goal.lay-before-requires
lay-before-requires g c =
    let all = counted g.row.N c.args.key.now c.args.state.now c.args.circuit.now c.args.own.now c.requires.suits in
    (omega arith, (c.requires.some, (c.requires.few, (c.requires.suits.before, omega arith))))

pub lay-behind-requires : goal.lay-behind-requires
lay-behind-requires g c =
    let all = counted g.row.N c.args.key.now c.args.state.now c.args.circuit.now c.args.own.now c.requires.suits in
    let ends : c.lay-before.result ≡ 0 + length (all_laid g.row.N c.args.key.now c.args.state.now c.args.own.now.before.now) = c.lay-before.ensures.end in
    (omega arith, (c.requires.some, (c.requires.few, (c.requires.suits.behind, omega arith))))

pub evaluate-requires : goal.evaluate-requires
evaluate-requires g c =
    let all = counted g.row.N c.args.key.now c.args.state.now c.args.circuit.now c.args.own.now c.requires.suits in
    let before = all_laid g.row.N c.args.key.now c.args.state.now c.args.own.now.before.now in
    let behind = all_laid g.row.N c.args.key.now c.args.state.now c.args.own.now.behind.now in
    let ends : c.lay-before.result ≡ 0 + length before = c.lay-before.ensures.end in
    let last : c.lay-behind.result ≡ c.lay-before.result + length behind = c.lay-behind.ensures.end in
    let parts = laid_parts before behind c.lay-before.new.inputs c.lay-behind.new.inputs c.args.inputs.now c.lay-before.result c.lay-behind.result ends last
    c.lay-before.ensures.laid c.lay-behind.ensures.laid in
    let front = ap length parts.0 in
    let rest = ap length parts.1 in
    let amount : ℕ → Amount = λ (n : ℕ). record { lanes = 1; bits = n } in (
      omega arith,
      (
        omega arith,
        (
          c.requires.some,
          (
            c.requires.few,
            (
              omega arith,
              (
                omega arith,
                (
                  c.requires.fits,
                  (
                    omega arith,
                    (
                      c.requires.room ∙ ap amount (stretch_is g.row.N c.args.circuit.now c.args.own.now),
                      c.requires.ready,
                    ),
                  ),
                ),
              ),
            ),
          ),
        ),
      ),
    )

pub returns-clause-ran : goal.returns-clause-ran
returns-clause-ran g c =
    let before = all_laid g.row.N c.args.key.now c.args.state.now c.args.own.now.before.now in
    let behind = all_laid g.row.N c.args.key.now c.args.state.now c.args.own.now.behind.now in
    let parts = laid_parts before behind c.lay-before.new.inputs c.lay-behind.new.inputs c.args.inputs.now c.lay-before.result c.lay-behind.result
    c.lay-before.ensures.end c.lay-behind.ensures.end c.lay-before.ensures.laid c.lay-behind.ensures.laid in
    let Did : List (List ℕ) → List (List ℕ) → Type 0 = λ (xs ys : List (List ℕ)).
    EvaluatesInLanes c.args.circuit.now g.row.N 1 xs c.args.own.now.message.now ys c.args.tape.now c.evaluate.new.tape
    (g.E.Entropy.left c.args.entropy.now) (g.E.Entropy.left c.evaluate.new.entropy)
    (g.W.Watch.told c.args.watch.now) (g.W.Watch.told c.evaluate.new.watch) c.evaluate.new.frame.outputs in
    on_ok_weaker c.evaluate.result
    (λ did. evaluated g.row.N c.args.circuit.now c.args.own.now c.args.key.now c.args.state.now c.requires.suits.before c.requires.suits.behind
    _ _ _ _ _ _ c.evaluate.new.frame.outputs c.requires.kept
    (subst (λ (xs : List (List ℕ)). Did xs behind) parts.0
    (subst (Did (take c.lay-before.result c.lay-behind.new.inputs)) parts.1 did)))
    c.evaluate.ensures.evaluates

pub returns-clause-failed : goal.returns-clause-failed
returns-clause-failed g c =
    let bits = stretch_is g.row.N c.args.circuit.now c.args.own.now in
    let one : 1 * stretch g.row.N (step c.args.circuit.now c.args.own.now) ≡ stretch g.row.N (step c.args.circuit.now c.args.own.now) = omega arith in
    on_err_weaker c.evaluate.result (λ failed. (failed.0 ∙ ap (λ (n : ℕ). new_bytes c.args.tape.now (1 * n)) (sym bits) ∙ ap (new_bytes c.args.tape.now) one, failed.1))
    c.evaluate.ensures.failed
