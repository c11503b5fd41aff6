use Rattle.std.proofs.Common.{sym, arith}
use Rattle.std.proofs.lemmas.Bool.Decides.{nat_tests}
use Rattle.mask_words.proofs.Numbers.{is_number-parsed, is_number-unparsed}
use Rattle.mask_words.proofs.word_tests.is_number_between.Goals.{then-low-number, else-low-number}
use Rattle.mask_words.proofs.word_tests.is_number_between.Goals as goal

pub returns-then-number-high : goal.returns-then-number-high
returns-then-number-high c =
    let whole = is_number-parsed c.args.low c.args.high c.args.word.now c.in-Ok.number c.parse.result c.parse.ensures.value.0 (omega arith) c.in-Ok.is in
    elim c.if-low-number.branch [ then-low-number w ↦ grind (arith, nat_tests) | else-low-number w ↦ grind (arith, nat_tests) ]

pub returns-else-number-high : goal.returns-else-number-high
returns-else-number-high c =
    let whole = is_number-parsed c.args.low c.args.high c.args.word.now c.in-Ok.number c.parse.result c.parse.ensures.value.0 (omega arith) c.in-Ok.is in
    elim c.if-low-number.branch [ then-low-number w ↦ grind (arith, nat_tests) | else-low-number w ↦ grind (arith, nat_tests) ]

pub returns-in-Err : goal.returns-in-Err
returns-in-Err c =
    sym (is_number-unparsed c.args.low c.args.high c.args.word.now c.in-Err.field-0 c.parse.result c.parse.ensures.value.0 (omega arith) c.in-Err.is)
