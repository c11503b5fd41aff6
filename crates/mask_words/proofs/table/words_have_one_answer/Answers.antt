use Rattle.mask_words.proofs.Apart.{IsJob-one}
use Rattle.mask_words.proofs.Places.{refused_at_one_place}
use Rattle.mask_words.proofs.table.words_have_one_answer.Goals as goal

pub returns : goal.returns
returns c = record { job = IsJob-one; place = refused_at_one_place }
