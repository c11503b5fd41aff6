use Rattle.std.proofs.Common.{◌≡◌, ◌<◌, length, sym, ◌∙◌, arith}
use Rattle.mask_text.proofs.Pieces.{words_first, words_later, words_none}
use Rattle.mask_text.proofs.lines.next_word.Goals as goal

pub returns-then-not-is_empty : goal.returns-then-not-is_empty
returns-then-not-is_empty c =
    let some : 0 < length c.cut.result.0.now = grind arith in
    (sym c.loop-rest.invariant ∙ words_first _ _ _ some c.cut.ensures, some)

pub loop-rest-preserved : goal.loop-rest-preserved
loop-rest-preserved c =
    let none : length c.cut.result.0.now ≡ 0 = grind arith in
    sym (words_later _ _ _ none c.cut.ensures) ∙ c.loop-rest.invariant

pub returns : goal.returns
returns c =
    let none : length c.loop-rest.rest.now ≡ 0 = grind arith in
    sym c.loop-rest.invariant ∙ words_none _ none
