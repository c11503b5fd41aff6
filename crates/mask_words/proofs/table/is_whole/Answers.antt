use Rattle.std.proofs.Common.{sym, ◌∙◌, ap, eq-eqb, length, arith}
use Rattle.std.proofs.lemmas.Bool.{eqb-true, leb-true}
use Rattle.mask_words.proofs.Matching.{match-reach, reach-match}
use Rattle.mask_words.specs.Jobs.{tests_of, tail_of}
use Rattle.mask_words.proofs.table.is_whole.Goals as goal

pub returns-then-passed-tests : goal.returns-then-passed-tests
returns-then-passed-tests c =
    let tests_len = ap length c.tests.ensures in (
      λ h. let whole = eqb-true _ _ h in
          match-reach _ _ _ (sym c.requires ∙ whole ∙ c.len.ensures.count) (omega arith),
      λ m. eq-eqb _ _ (c.requires ∙ (reach-match _ _ _ m).0 ∙ sym c.len.ensures.count),
    )

pub returns-else-passed-tests : goal.returns-else-passed-tests
returns-else-passed-tests c =
    let tests_len = ap length c.tests.ensures in (
      λ h. let enough = leb-true _ _ h in absurd (omega arith),
      λ m. let whole = reach-match (tests_of c.args.form) (tail_of c.args.form) c.args.words.now m in absurd (omega arith),
    )
