use Rattle.std.proofs.Common.{◌<◌, Bool, take, ap, sym, ◌∙◌, arith, length-take}
use Rattle.mask_io.specs.Outside.{faults_after}
use Rattle.mask_keys.specs.Answers.{Whole}
use Rattle.mask_keys.proofs.Answering.{decides, answers_both, answers-unfailed}
use Rattle.mask_keys.proofs.files.read_keys.Goals as goal

pub returns-clause-always : goal.returns-clause-always
returns-clause-always g c =
    let bound = c.in-Ok.ensures.bound in
    let below : c.in-Ok.came < 4097 = omega arith in
    decides c.args.lines c.args.length _ (g.K.Source.left c.read_full.new.source) c.lines_in.result (
      take c.in-Ok.came c.read_full.new.buf,
      c.in-Ok.ensures.taken,
      Whole (c.in-Ok.ensures.end below) (omega (arith, length-take c.in-Ok.came c.read_full.new.buf))
          (answers_both c.args.lines c.args.length (take c.in-Ok.came c.read_full.new.buf) c.lines_in.result c.lines_in.ensures.lines c.lines_in.ensures.bad),
    )

pub returns-clause-counts : goal.returns-clause-counts
returns-clause-counts g c =
    let unfailed = answers-unfailed c.args.lines c.args.length (take c.in-Ok.came c.read_full.new.buf) c.lines_in.result c.lines_in.ensures.bad in
    c.in-Ok.ensures.counts ∙ ap (λ (t : Bool). faults_after t (g.K.Source.faults c.args.keys.now)) (sym unfailed)
