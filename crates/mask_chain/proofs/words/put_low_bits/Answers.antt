use Rattle.std.proofs.Common.{◌*◌, ◌≡◌, length, arith}
use Rattle.mask_chain.proofs.BitWords.{all_words, word_more}
use Rattle.mask_chain.proofs.words.put_low_bits.Goals as goal

pub loop-j-preserved : goal.loop-j-preserved
loop-j-preserved c =
    word_more c.args.bytes.now c.loop-j.words c.loop-j.j c.word_of.result (omega arith) (omega arith) c.loop-j.invariant c.word_of.ensures

pub returns : goal.returns
returns c = all_words c.args.bytes.now c.loop-j.words c.loop-j.j (omega arith) (omega arith) c.loop-j.invariant
