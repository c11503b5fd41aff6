use Rattle.std.proofs.Common.{refl, ap, sym, ◌∙◌}
use Rattle.mask_trace.specs.Drawing.{stand}
use Rattle.mask_trace.proofs.Drawing.{same_stand}
use Rattle.mask_counter.specs.Batches.{Between}
use Rattle.mask_counter.proofs.Batches.{is_batch, plain_ran, plain_stopped}
use Rattle.mask_counter.proofs.counter.CounterRun.plain_batch.Goals as goal

pub returns-in-Ok-clause-ran : goal.returns-in-Ok-clause-ran
returns-in-Ok-clause-ran g c =
    plain_ran g.row.N c.args.self.now c.args.piece.now
    (is_batch _ _ _ c.self.view_is c.self.invariant.is_block c.requires.whole c.requires.some c.requires.few)
    c.encrypt.new.self _ _ _ (same_stand _ _ _ _ _ _ refl refl (c.room.ensures.told ∙ c.cancel.ensures.told)) c.requires.due c.requires.kept
    (ap (λ (r : Between). r.shares) c.in-Ok.ensures.done) c.in-Ok.ensures.encrypted

pub returns-in-Err-clause-stopped : goal.returns-in-Err-clause-stopped
returns-in-Err-clause-stopped g c = λ _.
    let told = ap g.W.Watch.told c.in-Err.ensures.watch ∙ c.room.ensures.told ∙ c.cancel.ensures.told in
    plain_stopped g.row.N c.args.self.now c.args.piece.now
    (is_batch _ _ _ c.self.view_is c.self.invariant.is_block c.requires.whole c.requires.some c.requires.few)
    _ _ _ (stand c.args.tape.now _ _) (stand c.encrypt.new.tape _ _)
    (same_stand _ _ _ _ _ _ (sym c.in-Err.ensures.tape) (sym c.in-Err.ensures.left) (sym told))
    c.requires.due c.requires.kept c.in-Err.ensures.uncounted c.in-Err.ensures.failed.0 c.in-Err.ensures.failed.1
