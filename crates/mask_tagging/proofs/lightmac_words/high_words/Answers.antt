use Rattle.std.proofs.Common.{ap, ◌∙◌, arith}
use Rattle.mask_bits.specs.Reading.{high}
use Rattle.mask_tagging.proofs.LightMacBlocks.{block_is}
use Rattle.mask_tagging.proofs.lightmac_words.high_words.Goals as goal

pub returns : goal.returns
returns c = c.block_words.ensures 0 (omega arith) ∙ ap high (block_is c.args.block.now (omega arith))
