use Rattle.mask_bits.specs.Reading.{lowest}
use Rattle.mask_present.proofs.Updates.{HasCounted}
use Rattle.mask_present.proofs.schedule.counted.Given as goal

abbrev pub invariant-loop-k : goal.invariant-loop-k
invariant-loop-k l = HasCounted l.fn.b l.b (lowest 5 l.number) l.values l.result l.k
