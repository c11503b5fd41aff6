use Rattle.std.proofs.Common.{arith}
use Rattle.mask_words.proofs.Matching.{reach-drop_all}
use Rattle.mask_words.proofs.table.reach.Goals as goal

pub returns-after-loop-passed : goal.returns-after-loop-passed
returns-after-loop-passed c =
    let done = reach-drop_all c.args.tests.now c.args.tail c.args.words.now c.loop-passed.passed (omega arith) in
    omega (arith, c.loop-passed.invariant.adds_up)
