use Rattle.std.proofs.Common.{[], refl, ap, sym, ◌∙◌}
use Rattle.mask_trace.specs.Drawing.{stand}
use Rattle.mask_trace.proofs.Drawing.{same_stand}
use Rattle.mask_chain.specs.Evaluations.{step}
use Rattle.mask_chain.specs.Chains.{have}
use Rattle.mask_chain.proofs.Stopping.{stopped_first}
use Rattle.mask_chain.proofs.chains.ChainRun.take.Goals as goal

pub returns-in-Err-clause-stopped : goal.returns-in-Err-clause-stopped
returns-in-Err-clause-stopped g c = λ _.
    let own = step c.args.part.now c.args.own.now in
    let told = ap g.W.Watch.told c.in-Err.ensures.watch ∙ c.room.ensures.told ∙ c.cancel.ensures.told in
    stopped_first g.row.N (have c.args.self.now) own _ _ _ (have c.evaluate.new.self) [] own [] (stand c.args.tape.now _ _) (stand c.evaluate.new.tape _ _) refl
    (ap have c.in-Err.ensures.same) (same_stand _ _ _ _ _ _ (sym c.in-Err.ensures.tape) (sym c.in-Err.ensures.left) (sym told))
    c.requires.kept c.in-Err.ensures.uncounted c.in-Err.ensures.failed.0 c.in-Err.ensures.failed.1
