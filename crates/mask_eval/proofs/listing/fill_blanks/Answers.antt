use Rattle.std.proofs.Common.{◌≡◌, length, arith}
use Rattle.mask_eval.proofs.Lists.{at_blank}
use Rattle.mask_eval.proofs.listing.fill_blanks.Goals as goal

pub fill-requires-clause-inputs : goal.fill-requires-clause-inputs
fill-requires-clause-inputs c =
    at_blank (λ seen. length seen.inputs ≡ length c.args.inputs.now) c.loop-l.blanks c.args.blanks.now c.loop-l.l c.index-blanks-l.result c.requires.inputs
    c.loop-l.invariant.back (omega arith)

pub fill-requires-clause-tape : goal.fill-requires-clause-tape
fill-requires-clause-tape c =
    at_blank (λ seen. length seen.tape ≡ length c.args.coins.now) c.loop-l.blanks c.args.blanks.now c.loop-l.l c.index-blanks-l.result c.requires.tape
    c.loop-l.invariant.back (omega arith)

pub fill-requires-clause-outputs : goal.fill-requires-clause-outputs
fill-requires-clause-outputs c =
    at_blank (λ seen. length seen.outputs ≡ length c.args.outputs.now) c.loop-l.blanks c.args.blanks.now c.loop-l.l c.index-blanks-l.result c.requires.outputs
    c.loop-l.invariant.back (omega arith)
