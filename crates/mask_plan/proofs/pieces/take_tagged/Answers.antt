use Rattle.std.proofs.Common.{◌≡◌, length, subst, sym}
use Rattle.mask_tagging.specs.Runs.{between}
use Rattle.mask_tagging.specs.Tagging.{Scheme, code_of}
use Rattle.mask_ciphers.specs.Tasks.{method_of}
use Rattle.mask_plan.specs.Sessions.{bit_place}
use Rattle.mask_plan.proofs.Places.{bits_stand}
use Rattle.mask_plan.proofs.Tagging.{goes_on, stopped, took}
use Rattle.mask_plan.proofs.pieces.take_tagged.Goals as goal

pub returns-in-Ok-clause-took : goal.returns-in-Ok-clause-took
returns-in-Ok-clause-took g c =
    took g.row.N (method_of c.args.task.now) (bit_place c.args.task.now) c.args.run.now c.piece.new.self c.args.fed c.args.piece.now c.args.last _ _ c.requires.some
    (c.tasks_encipher.ensures c.args.task.now c.requires.whole_task) (bits_stand c.args.task.now) c.requires.goes_on c.requires.whole c.requires.ends
    c.in-Ok.ensures.ran
    (c.outputs-handed.ensures.lanes
    (subst (λ (s : Scheme). length (between c.piece.new.self).held.state ≡ (code_of s).state_bits) (sym c.piece.ensures.scheme) c.in-Ok.ensures.behind))

pub returns-in-Ok-clause-goes_on : goal.returns-in-Ok-clause-goes_on
returns-in-Ok-clause-goes_on g c not_last =
    goes_on g.row.N (method_of c.args.task.now) c.args.run.now c.piece.new.self c.args.fed c.args.piece.now _ _ c.requires.some
    (c.tasks_encipher.ensures c.args.task.now c.requires.whole_task) c.requires.goes_on (rw not_last at c.in-Ok.ensures.ran) c.piece.ensures.scheme c.in-Ok.ensures.behind
    (c.requires.whole not_last)

pub returns-in-Err-clause-stopped : goal.returns-in-Err-clause-stopped
returns-in-Err-clause-stopped g c failed =
    stopped g.row.N (method_of c.args.task.now) c.args.run.now c.piece.new.self c.args.fed c.args.piece.now c.args.last _ _ _ _ _ c.requires.goes_on
    (c.in-Err.ensures.stopped failed)
