use Rattle.std.proofs.Common.{◌≡◌, None, Some, refl, ap, ap₂, subst}
use Rattle.mask_trace.specs.Drawing.{Stand, stand}
use Rattle.mask_plan.specs.Sessions.{IsClosedBy, Progress, Refuses}
use Rattle.mask_plan.specs.Inside.{progress}
use Rattle.mask_plan.proofs.Taking.{refuses}
use Rattle.mask_plan.proofs.session.Session.take.Goals as goal

pub returns-in-Err-clause-answers : goal.returns-in-Err-clause-answers
returns-in-Err-clause-answers g c =
    let a : Stand = stand c.args.tape.now (g.E.Entropy.left c.args.entropy.now) (g.W.Watch.told c.args.watch.now) in
    let b : Stand = stand c.take_piece.new.tape (g.E.Entropy.left c.take_piece.new.entropy) (g.W.Watch.told c.take_piece.new.watch) in
    let now : Progress = progress c.self.inside.task c.take_piece.new.run c.self.inside.fed (Some c.stop_for-stop.result) c.self.inside.ended c.self.inside.written in
    let P : Progress → Type 0 = λ s. (s.closed ≡ None) × IsClosedBy c.stop_for-stop.result s now
    × Refuses g.row.N s c.args.piece.now c.args.last (g.E.Entropy.wanted c.take_piece.new.entropy) c.args.steps.now c.take_piece.new.steps a b c.stop_for-stop.result in
    subst P c.self.view_is (
      c.in_default.is,
      refl,
      rw c.stop_for-stop.ensures
          (refuses g.row.N c.self.inside.task c.self.inside.run c.self.inside.fed c.self.inside.written c.self.inside.closed c.self.inside.ended c.args.piece.now
          c.args.last _ _ _ a b c.in-Err.error c.in-Err.ensures.stopped
          (λ full.
          let same = c.in-Err.ensures.no_memory full in (
            (λ i. stand (same.1 i) (g.E.Entropy.left (same.2 i)) (same.3 i)),
            same.4,
          ))),
    )
