use Rattle.std.proofs.Common.{length, arith}
use Rattle.mask_tape.proofs.Lanes.{spread_by_bits}
use Rattle.mask_tape.proofs.spreading.spread.Goals as goal

pub returns : goal.returns
returns c =
    spread_by_bits c.args.bytes.now c.loop-first.words c.args.at c.args.lanes (length c.args.words.now) c.loop-first.auto.words c.requires.within
    (λ k m hk hm. c.loop-first.invariant.used k m (omega arith) hm) (λ k m hk hm lt. c.loop-first.invariant.unused k m (omega arith) hm lt)
