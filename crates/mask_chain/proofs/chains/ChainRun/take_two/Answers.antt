use Rattle.std.proofs.Common.{ℕ, ◌-◌, [], ◌∷◌, length, refl, ap, sym, subst, ◌∙◌, arith}
use Rattle.mask_eval.specs.Watching.{awaited}
use Rattle.mask_trace.specs.Drawing.{Stand, Ran, stand}
use Rattle.mask_trace.proofs.Drawing.{draws_join, runs_join, same_stand}
use Rattle.mask_chain.specs.Evaluations.{Suits, step}
use Rattle.mask_chain.specs.Chains.{have}
use Rattle.mask_chain.proofs.Stopping.{stopped_first, stopped_behind}
use Rattle.mask_chain.proofs.chains.ChainRun.take_two.Goals as goal

pub returns-in-Err-clause-stopped : goal.returns-in-Err-clause-stopped
returns-in-Err-clause-stopped g c = λ _.
    let first = step c.args.first.now c.args.ahead.now in
    let own = step c.args.part.now c.args.own.now in
    let told = ap g.W.Watch.told c.in-Err.ensures.watch ∙ c.room-2.ensures.told ∙ c.room.ensures.told ∙ c.cancel.ensures.told in
    stopped_first g.row.N (have c.args.self.now) own _ _ _ (have c.evaluate.new.self) (first ∷ []) first (own ∷ []) (stand c.args.tape.now _ _) (stand c.evaluate.new.tape _ _) refl
    (ap have c.in-Err.ensures.same) (same_stand _ _ _ _ _ _ (sym c.in-Err.ensures.tape) (sym c.in-Err.ensures.left) (sym told))
    c.requires.kept c.in-Err.ensures.uncounted c.in-Err.ensures.failed.0 c.in-Err.ensures.failed.1

pub evaluate-requires : goal.evaluate-requires
evaluate-requires g c =
    let early = c.in_ok-early.ensures.ready [] c.cancel.ensures.ready in
    let both = c.in_ok-late.ensures.ready (awaited c.args.first.now (g.row.N - 1) 1 ∷ []) early in (
      omega arith,
      (
        omega arith,
        (
          omega arith,
          (
            c.requires.some,
            (
              c.requires.few,
              (
                c.requires.ahead,
                (
                  c.in_ok-early.ensures.coins,
                  (c.in_ok-early.ensures.outputs, ((awaited c.args.part.now (g.row.N - 1) 1 ∷ [], both), c.requires.kept)),
                ),
              ),
            ),
          ),
        ),
      ),
    )

pub evaluate-requires-2 : goal.evaluate-requires-2
evaluate-requires-2 g c =
    let early = c.in_ok-early.ensures.ready [] c.cancel.ensures.ready in
    let both = c.in_ok-late.ensures.ready (awaited c.args.first.now (g.row.N - 1) 1 ∷ []) early in
    let lengths = c.in-Ok.ensures.lengths in (
      omega arith,
      (
        omega arith,
        (
          omega arith,
          (
            c.requires.some,
            (
              c.requires.few,
              (
                subst (λ (k : ℕ). Suits k (length c.evaluate.new.self.state) c.args.part.now c.args.own.now) (sym lengths.0)
                    (subst (λ (s : ℕ). Suits (length c.args.self.now.key) s c.args.part.now c.args.own.now) (sym lengths.1) c.requires.suits),
                (
                  c.in_ok-late.ensures.coins,
                  (
                    c.in_ok-late.ensures.outputs,
                    (
                      ([], c.in-Ok.ensures.ready (awaited c.args.part.now (g.row.N - 1) 1 ∷ []) both),
                      draws_join.few _ _ _ _ c.in-Ok.ensures.ran.drew,
                    ),
                  ),
                ),
              ),
            ),
          ),
        ),
      ),
    )

pub returns-in-Ok-evaluate-clause-ran : goal.returns-in-Ok-evaluate-clause-ran
returns-in-Ok-evaluate-clause-ran g c =
    let first = step c.args.first.now c.args.ahead.now in
    let own = step c.args.part.now c.args.own.now in
    let told = c.room-2.ensures.told ∙ c.room.ensures.told ∙ c.cancel.ensures.told in
    let b = stand c.evaluate.new.tape (g.E.Entropy.left c.evaluate.new.entropy) (g.W.Watch.told c.evaluate.new.watch) in
    runs_join.all g.row.N (have c.args.self.now) (have c.evaluate.new.self) (have c.evaluate-2.new.self) (first ∷ []) (own ∷ []) _ b _
    (subst (λ (a : Stand). Ran g.row.N (have c.args.self.now) (first ∷ []) (have c.evaluate.new.self) a b) (same_stand _ _ _ _ _ _ refl refl told) c.in-Ok.ensures.ran)
    c.in-Ok-evaluate.ensures.ran

pub returns-in-Err-evaluate-clause-stopped : goal.returns-in-Err-evaluate-clause-stopped
returns-in-Err-evaluate-clause-stopped g c = λ _.
    let first = step c.args.first.now c.args.ahead.now in
    let own = step c.args.part.now c.args.own.now in
    let told = c.room-2.ensures.told ∙ c.room.ensures.told ∙ c.cancel.ensures.told in
    let behind = ap g.W.Watch.told c.in-Err-evaluate.ensures.watch in
    let b = stand c.evaluate.new.tape (g.E.Entropy.left c.evaluate.new.entropy) (g.W.Watch.told c.evaluate.new.watch) in
    stopped_behind g.row.N (have c.args.self.now) own _ _ _ (have c.evaluate.new.self) (have c.evaluate-2.new.self) first _ b (stand c.evaluate-2.new.tape _ _)
    (subst (λ (a : Stand). Ran g.row.N (have c.args.self.now) (first ∷ []) (have c.evaluate.new.self) a b) (same_stand _ _ _ _ _ _ refl refl told) c.in-Ok.ensures.ran)
    (ap have c.in-Err-evaluate.ensures.same)
    (same_stand _ _ _ _ _ _ (sym c.in-Err-evaluate.ensures.tape) (sym c.in-Err-evaluate.ensures.left) (sym behind))
    (c.in-Err-evaluate.ensures.uncounted ∙ c.in-Ok.ensures.steps) c.in-Err-evaluate.ensures.failed.0 c.in-Err-evaluate.ensures.failed.1
