use Rattle.std.proofs.Common.{arith}
use Rattle.std.proofs.lemmas.Fmt.{decimal_injective}
use Rattle.mask_words.proofs.Numbers.{is_number_between-Decides, is_number_between-decimal}
use Rattle.mask_words.proofs.word_tests.wires_have_one_number.Goals as goal

pub returns : goal.returns
returns c = record {
  word = λ n h. is_number_between-decimal 0 4294967295 n (omega arith) (omega arith) (omega arith);
  below = λ w is. let spelled = (is_number_between-Decides 0 4294967295 w).0 is in omega (arith, spelled.0.1);
  spelled = λ w is. ((is_number_between-Decides 0 4294967295 w).0 is).1;
  one = λ m n h k e. decimal_injective m n (omega arith) (omega arith) e;
}
