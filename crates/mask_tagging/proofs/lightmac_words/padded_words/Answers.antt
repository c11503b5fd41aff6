use Rattle.std.proofs.Common.{List, ℕ, ◌++◌, length, drop, replicate, ap, ◌∙◌}
use Rattle.std.proofs.Math.ListN.{set}
use Rattle.mask_bits.specs.Reading.{high}
use Rattle.mask_tagging.proofs.LightMacBlocks.{padded_is}
use Rattle.mask_tagging.proofs.lightmac_words.padded_words.Goals as goal

pub returns : goal.returns
returns c =
    let piece = c.args.piece.now in
    c.high_words.ensures
    ∙ ap high (ap (λ (front : List ℕ). set (front ++ drop (length piece) (replicate 8 0)) (length piece) 0x80) c.copy_from_slice.ensures.after ∙ padded_is piece c.requires)
