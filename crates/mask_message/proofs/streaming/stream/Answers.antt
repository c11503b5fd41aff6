use Rattle.std.proofs.Common.{◌≡◌, None, length, refl, ap, arith}
use Rattle.mask_plan.specs.Sessions.{Progress}
use Rattle.mask_ciphers.proofs.Joining.{lines_share_keys}
use Rattle.mask_message.proofs.Growing.{has_key_of}
use Rattle.mask_message.proofs.Ending.{stops_at_start, under_task}
use Rattle.mask_message.proofs.Telling.{streams_tell, streams_want}
use Rattle.mask_message.proofs.streaming.stream.Goals as goal

pub returns-in-Err-clause-ends : goal.returns-in-Err-clause-ends
returns-in-Err-clause-ends g c before after =
    stops_at_start c.args.task.now g.row.N c.args.lines.now _ c.requires.some c.tasks_are_whole.ensures c.requires.count
    (lines_share_keys.joins c.args.task.now c.args.lines.now c.requires.shape c.requires.length) refl refl refl c.start.ensures.steps

pub returns-clause-ends : goal.returns-clause-ends
returns-clause-ends g c before after =
    let begins = c.in-Ok.ensures.begins in
    let key = lines_share_keys.joins c.args.task.now c.args.lines.now c.requires.shape c.requires.length in
    let same : c.in-Ok.session.task ≡ c.args.task.now = ap (λ (p : Progress). p.task) begins in
    under_task c.args.task.now c.in-Ok.session.task g.row.N c.args.lines.now _ _ c.requires.count same
    (c.take_all.ensures.ends c.args.lines.now (has_key_of c.args.task.now c.args.lines.now c.in-Ok.session begins c.requires.length key) before after c.args.steps.now
    (rw same c.start.ensures.steps))

pub returns-clause-secure : goal.returns-clause-secure
returns-clause-secure g c =
    let takes = returns-clause-ends g c None None in
    streams_tell c.args.task.now (length c.args.lines.now) c.args.lines.now _ (omega (arith, c.requires.some, c.requires.count)) c.tasks_are_whole.ensures refl takes.bytes c.take_all.result takes.streams

pub returns-clause-wants : goal.returns-clause-wants
returns-clause-wants g c is =
    let takes = returns-clause-ends g c None None in
    streams_want c.args.task.now (length c.args.lines.now) c.args.lines.now _ takes.bytes c.take_all.result takes.streams is
