use Rattle.std.proofs.Common.{◌≡◌, ◌-◌, ◌*◌, ◌≤◌, length, refl, ap, sym, ◌∙◌, arith}
use Rattle.mask_trace.proofs.Drawing.{draws_join, same_stand}
use Rattle.mask_trace.specs.Drawing.{stand}
use Rattle.mask_modes.specs.CounterMode.{block_count}
use Rattle.mask_counter.specs.Batches.{Between}
use Rattle.mask_counter.proofs.Batches.{is_batch, ready_behind, refresh_stopped, renewed_ran, renewed_stopped, room_behind}
use Rattle.mask_counter.proofs.counter.CounterRun.renewed_batch.Goals as goal

pub returns-in-Err-clause-stopped : goal.returns-in-Err-clause-stopped
returns-in-Err-clause-stopped g c = λ _.
    let told = ap g.W.Watch.told c.in-Err.ensures.watch ∙ c.rooms.ensures.told in
    refresh_stopped g.row.N c.args.self.now c.args.piece.now
    (is_batch _ _ _ c.self.view_is c.self.invariant.is_block c.requires.whole c.requires.some c.requires.few)
    _ _ _ (stand c.args.tape.now _ _) (stand c.renew.new.tape _ _)
    (same_stand _ _ _ _ _ _ (sym c.in-Err.ensures.tape) (sym c.in-Err.ensures.left) (sym told))
    c.requires.due c.requires.kept c.in-Err.ensures.uncounted c.in-Err.ensures.failed.0 c.in-Err.ensures.failed.1

pub encrypt-requires : goal.encrypt-requires
encrypt-requires g c =
    let run : Between = c.args.self.now in
    let now : Between = c.renew.new.self in
    let block : now.block ≡ run.block = ap (λ (r : Between). r.block) c.renew.ensures.rest in
    let done : now.done ≡ run.done = ap (λ (r : Between). r.done) c.renew.ensures.rest in
    let few : length c.args.piece.now ≤ 64 * now.block = let h = c.requires.few in omega arith in
    let all : block_count c.self.inside.block (length c.args.piece.now) ≡ block_count run.block (length c.args.piece.now)
    = ap (λ (r : Between). block_count r.block (length c.args.piece.now)) c.self.view_is in (
      omega arith,
      (
        c.requires.some,
        (
          few,
          (
            omega arith,
            (
              room_behind _ g.row.N run now _ c.args.piece.now c.renew.ensures.rest all c.in_ok-refresh.ensures.blocks,
              (
                ready_behind (g.W.Watch.ready c.rooms.new.watch) (g.W.Watch.ready c.renew.new.watch) run now (g.row.N - 1) _ c.args.piece.now
                    c.renew.ensures.rest all c.in_ok-refresh.ensures.ready c.in-Ok.ensures.ready,
                draws_join.few _ _ _ _ c.in-Ok.ensures.ran.drew,
              ),
            ),
          ),
        ),
      ),
    )

pub returns-in-Ok-encrypt-clause-ran : goal.returns-in-Ok-encrypt-clause-ran
returns-in-Ok-encrypt-clause-ran g c =
    renewed_ran g.row.N c.args.self.now c.args.piece.now
    (is_batch _ _ _ c.self.view_is c.self.invariant.is_block c.requires.whole c.requires.some c.requires.few)
    c.renew.new.self c.encrypt.new.self _ _ _ _ (same_stand _ _ _ _ _ _ refl refl c.rooms.ensures.told)
    c.requires.due c.renew.ensures.rest c.in-Ok.ensures.ran
    (ap (λ (r : Between). r.shares) c.in-Ok-encrypt.ensures.done) c.in-Ok-encrypt.ensures.encrypted

pub returns-in-Err-encrypt-clause-stopped : goal.returns-in-Err-encrypt-clause-stopped
returns-in-Err-encrypt-clause-stopped g c = λ _.
    let told = ap g.W.Watch.told c.in-Err-encrypt.ensures.watch in
    renewed_stopped g.row.N c.args.self.now c.args.piece.now
    (is_batch _ _ _ c.self.view_is c.self.invariant.is_block c.requires.whole c.requires.some c.requires.few)
    _ _ _ c.renew.new.self _ _ (stand c.renew.new.tape _ _) (stand c.encrypt.new.tape _ _)
    (same_stand _ _ _ _ _ _ refl refl c.rooms.ensures.told)
    (same_stand _ _ _ _ _ _ (sym c.in-Err-encrypt.ensures.tape) (sym c.in-Err-encrypt.ensures.left) (sym told))
    c.requires.due c.renew.ensures.rest c.in-Ok.ensures.ran (c.in-Err-encrypt.ensures.uncounted ∙ c.in-Ok.ensures.steps)
    c.in-Err-encrypt.ensures.failed.0 c.in-Err-encrypt.ensures.failed.1
