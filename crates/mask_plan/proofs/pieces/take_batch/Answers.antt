use Rattle.std.proofs.Common.{◌≡◌, ℕ, ◌+◌, ◌^◌, ◌<◌, ◌≤◌, false, length, ap, ◌∙◌, arith}
use Rattle.std.proofs.Math.Facts.{Fits-lt-pow}
use Rattle.std.proofs.lemmas.List.Elements.{All-from_get_or}
use Rattle.mask_bits.specs.Reading.{AreBytes}
use Rattle.mask_ciphers.specs.Tasks.{method_of}
use Rattle.mask_plan.specs.Sessions.{bit_place}
use Rattle.mask_plan.proofs.Places.{bits_stand}
use Rattle.mask_plan.proofs.Taking.{goes_on, stopped, took}
use Rattle.mask_plan.proofs.pieces.take_batch.Goals as goal

pub returns-in-Ok-clause-took : goal.returns-in-Ok-clause-took
returns-in-Ok-clause-took g c =
    let are : AreBytes c.args.piece.now = All-from_get_or (λ (byte : ℕ). byte < 2 ^ 8) c.args.piece.now 0 (λ i lt. Fits-lt-pow (c.type_inv.piece i)) in
    took g.row.N (method_of c.args.task.now) (bit_place c.args.task.now) c.args.run.now c.batch.new.self c.args.fed c.args.piece.now c.args.last _ _ c.requires.some
    (c.tasks_encipher.ensures c.args.task.now c.requires.whole_task) (bits_stand c.args.task.now) c.requires.goes_on c.in-Ok.ensures.ran are

pub returns-in-Ok-clause-goes_on : goal.returns-in-Ok-clause-goes_on
returns-in-Ok-clause-goes_on g c not_last =
    goes_on g.row.N (method_of c.args.task.now) c.args.run.now c.batch.new.self c.args.fed c.args.piece.now _ _ c.requires.some
    (c.tasks_encipher.ensures c.args.task.now c.requires.whole_task) c.requires.goes_on c.in-Ok.ensures.ran c.in-Ok.ensures.done (c.requires.whole not_last)

pub returns-in-Err-clause-stopped : goal.returns-in-Err-clause-stopped
returns-in-Err-clause-stopped g c failed =
    stopped g.row.N (method_of c.args.task.now) c.args.run.now c.args.fed c.args.piece.now c.args.last _ _ _ _ _ c.requires.goes_on
    (c.in-Err.ensures.stopped failed)
