use Rattle.std.proofs.Common.{arith}
use Rattle.mask_words.proofs.Numbers.{parse-is_number}
use Rattle.mask_words.proofs.table.seed_of.Goals as goal

pub unwrap-requires : goal.unwrap-requires
unwrap-requires c =
    let read = parse-is_number 0 18446744073709551615 64 c.args.word.now c.parse.result c.parse.ensures.value.0 (omega arith) (omega arith) c.requires in rw read

pub returns : goal.returns
returns c =
    let read = parse-is_number 0 18446744073709551615 64 c.args.word.now c.parse.result c.parse.ensures.value.0 (omega arith) (omega arith) c.requires in cc
