use Rattle.std.proofs.Common.{List, ◌++◌, ℕ, length, drop, replicate, ap, ◌∙◌}
use Rattle.mask_bits.specs.Reading.{low}
use Rattle.mask_keystream.proofs.Blocks.{filled_up}
use Rattle.mask_keystream.proofs.words.block_words.Goals as goal

pub returns : goal.returns
returns c =
    let piece = c.args.piece.now in
    c.put_low_bits.ensures
    ∙ ap low (ap (λ (front : List ℕ). front ++ drop (length piece) (replicate 8 0)) c.copy_from_slice.ensures.after ∙ filled_up piece c.requires.few)
