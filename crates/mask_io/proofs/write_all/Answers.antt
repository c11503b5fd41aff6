use Rattle.std.proofs.Common.{◌∙◌, arith, ap, length}
use Rattle.mask_io.proofs.Writing.{one_more}
use Rattle.mask_io.proofs.write_all.Goals as goal

pub loop-rest-preserved : goal.loop-rest-preserved
loop-rest-preserved g c = record {
  so_far = one_more _ _ _ _ _ _ c.loop-rest.invariant.so_far c.in_ok-taken.ensures.ok.bound c.in_ok-taken.ensures.ok.appended;
  steady = c.in_ok-taken.ensures.counts ∙ c.loop-rest.invariant.steady;
  nothing = λ empty. absurd (grind (arith, ap length empty, c.loop-rest.invariant.so_far.shorter, c.loop-rest-test));
}
