use Rattle.mask_circuit.proofs.PairNumbers.{length-pairs, pair_number-closed, pair_number-lt, slice_get-pairs}
use Rattle.mask_circuit.proofs.pairs.pair_number.Goals as goal

pub returns-clause-value : goal.returns-clause-value
returns-clause-value c = pair_number-closed c.args.shares c.args.i c.args.j c.requires.order c.requires.bound

pub returns-clause-place : goal.returns-clause-place
returns-clause-place c =
    rw (returns-clause-value c) (slice_get-pairs c.args.shares c.args.i c.args.j (c.requires.order, c.requires.bound))

pub returns-clause-below : goal.returns-clause-below
returns-clause-below c =
    rw (returns-clause-value c) (pair_number-lt c.args.shares c.args.i c.args.j c.requires.order c.requires.bound)

pub returns-clause-listed : goal.returns-clause-listed
returns-clause-listed c = rw (length-pairs c.args.shares) (returns-clause-below c)
