use Rattle.mask_check.proofs.Judging.{batch_accepted, batch_refused}
use Rattle.mask_check.proofs.verdicts.judge_batch.Goals as goal

pub returns-then-meeting-ge64-clause-verdict : goal.returns-then-meeting-ge64-clause-verdict
returns-then-meeting-ge64-clause-verdict g c =
    batch_accepted c.args.circuit.now c.args.batch.now c.args.left.now c.args.right.now c.pass-meeting.result c.requires.batch c.pass-meeting.ensures.meeting
    c.if-meeting-ge64.true c.requires.earlier

pub returns-clause-verdict : goal.returns-clause-verdict
returns-clause-verdict g c =
    batch_refused c.args.circuit.now c.args.batch.now c.args.left.now c.args.right.now c.pass-meeting.result c.requires.batch c.pass-meeting.ensures.meeting
    c.if-meeting-ge64.false c.requires.earlier
