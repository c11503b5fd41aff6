use Rattle.std.proofs.Common.{◌≡◌, List, IfErr, sym, subst, arith}
use Rattle.mask_tape.specs.declared.tape.TapeError.TheVariants as TapeError
use Rattle.mask_trace.specs.Steps.{Step}
use Rattle.mask_trace.specs.Drawing.{stand}
use Rattle.mask_modes.specs.Steps.{block_at}
use Rattle.mask_streams.specs.Streams.{stream_step}
use Rattle.mask_streams.proofs.Plans.{none_ahead}
use Rattle.mask_chain.specs.Chains.{Stopped}
use Rattle.mask_keystream.proofs.Pieces.{start_ahead}
use Rattle.mask_keystream.proofs.streaming.StreamRun.piece.Goals as goal

pub returns-then-fed-eq0-clause-stopped : goal.returns-then-fed-eq0-clause-stopped
returns-then-fed-eq0-clause-stopped g c =
    subst (λ (ahead : List Step). IfErr c.first_piece.result (λ e. e ≡ TapeError.Failed → Stopped g.row.N c.args.self.now.held c.first_piece.new.self.held
    ahead (stream_step (block_at 8 c.args.piece.now 0)) (g.E.Entropy.wanted c.first_piece.new.entropy) c.args.steps.now c.first_piece.new.steps
    (stand c.args.tape.now (g.E.Entropy.left c.args.entropy.now) (g.W.Watch.told c.args.watch.now))
    (stand c.first_piece.new.tape (g.E.Entropy.left c.first_piece.new.entropy) (g.W.Watch.told c.first_piece.new.watch))))
    (sym (start_ahead c.args.self.now.iv c.args.fed (omega arith))) c.first_piece.ensures.stopped

pub returns-else-fed-eq0-clause-stopped : goal.returns-else-fed-eq0-clause-stopped
returns-else-fed-eq0-clause-stopped g c =
    subst (λ (ahead : List Step). IfErr c.later_piece.result (λ e. e ≡ TapeError.Failed → Stopped g.row.N c.args.self.now.held c.later_piece.new.self.held
    ahead (stream_step (block_at 8 c.args.piece.now 0)) (g.E.Entropy.wanted c.later_piece.new.entropy) c.args.steps.now c.later_piece.new.steps
    (stand c.args.tape.now (g.E.Entropy.left c.args.entropy.now) (g.W.Watch.told c.args.watch.now))
    (stand c.later_piece.new.tape (g.E.Entropy.left c.later_piece.new.entropy) (g.W.Watch.told c.later_piece.new.watch))))
    (sym (none_ahead c.args.self.now.iv c.args.fed (omega arith))) c.later_piece.ensures.stopped
