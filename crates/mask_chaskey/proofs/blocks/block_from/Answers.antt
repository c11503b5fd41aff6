use Rattle.std.proofs.Common.{ap, ◌∙◌}
use Rattle.mask_chaskey.specs.NamedChaskey.{four_words, block_from}
use Rattle.mask_chaskey.proofs.blocks.block_from.Goals as goal

pub returns : goal.returns
unfolding block_from
returns c = c.four_words.ensures ∙ ap four_words c.number_from.ensures
