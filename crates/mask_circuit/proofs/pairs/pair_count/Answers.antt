use Rattle.std.proofs.Common.{sym}
use Rattle.mask_circuit.proofs.PairNumbers.{length-pairs}
use Rattle.mask_circuit.proofs.pairs.pair_count.Goals as goal

pub returns-clause-count : goal.returns-clause-count
returns-clause-count c = sym (length-pairs c.args.shares)
