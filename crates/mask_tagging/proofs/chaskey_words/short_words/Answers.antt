use Rattle.std.proofs.Common.{List, ◌++◌, ℕ, length, drop, replicate, ap, ◌∙◌}
use Rattle.std.proofs.Math.ListN.{set}
use Rattle.mask_bits.specs.Reading.{low}
use Rattle.mask_tagging.proofs.ChaskeyPieces.{short_block}
use Rattle.mask_tagging.proofs.chaskey_words.short_words.Goals as goal

pub returns : goal.returns
returns c =
    let piece = c.args.piece.now in
    c.block_words.ensures
    ∙ ap low (ap (λ (front : List ℕ). set (front ++ drop (length piece) (replicate 16 0)) (length piece) 1) c.copy_from_slice.ensures.after ∙ short_block piece c.requires)
