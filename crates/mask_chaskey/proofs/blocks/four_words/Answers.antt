use Rattle.std.proofs.Common.{refl}
use Rattle.mask_chaskey.specs.NamedChaskey.{four_words}
use Rattle.mask_chaskey.proofs.blocks.four_words.Goals as goal

pub returns : goal.returns
unfolding four_words
returns c = rw (c.word_at.ensures, c.word_at-2.ensures, c.word_at-3.ensures, c.word_at-4.ensures) refl
