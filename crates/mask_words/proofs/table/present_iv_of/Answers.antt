use Rattle.mask_words.proofs.Hexadecimal.{parse-64_bits}
use Rattle.mask_words.proofs.table.present_iv_of.Goals as goal

pub unwrap-requires : goal.unwrap-requires
unwrap-requires c = let read = parse-64_bits c.args.word.now c.from_str_radix.result c.from_str_radix.ensures.value c.requires in rw read

pub returns : goal.returns
returns c = let read = parse-64_bits c.args.word.now c.from_str_radix.result c.from_str_radix.ensures.value c.requires in cc
