use Rattle.std.proofs.Common.{◌≡◌, length, arith}
use Rattle.std.proofs.lemmas.List.{nil_from_length}
use Rattle.mask_ciphers.specs.Tasks.{method_of}
use Rattle.mask_plan.specs.Sessions.{bit_place}
use Rattle.mask_plan.proofs.Taking.{took_none}
use Rattle.mask_plan.proofs.pieces.take_piece.Goals as goal

pub returns-then-not-makes_tag-clause-took : goal.returns-then-not-makes_tag-clause-took
returns-then-not-makes_tag-clause-took g c =
    let empty : length c.args.piece.now ≡ 0 = grind arith in
    rw (nil_from_length c.args.piece.now empty)
    (took_none g.row.N (method_of c.args.task.now) (bit_place c.args.task.now) c.args.run.now c.args.fed c.args.last _
    (c.tasks_encipher.ensures c.args.task.now c.tasks_are_whole.ensures) (c.makes_tag.ensures.cipher c.if-not-makes_tag.true) c.requires.goes_on c.kept-kept.ensures.few)
