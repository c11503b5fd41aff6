use Rattle.std.proofs.Common.{lit<, ◌∙◌}
use Rattle.mask_words.proofs.Hexadecimal.{decode_sized-digits}
use Rattle.mask_words.proofs.table.trivium_iv_of.Goals as goal

pub unwrap-requires : goal.unwrap-requires
unwrap-requires c = let read = c.from_hex.ensures ∙ decode_sized-digits 10 c.args.word.now c.requires (lit< tt) in rw read

pub returns : goal.returns
returns c = let read = c.from_hex.ensures ∙ decode_sized-digits 10 c.args.word.now c.requires (lit< tt) in cc
