use Rattle.std.proofs.Common.{◌≡◌, ◌+◌, ◌<◌}
use Rattle.mask_circuit.specs.Pairs.{pairs_before}
use Rattle.mask_circuit.proofs.pairs.pair_at.Given as goal

abbrev pub invariant-loop-i : goal.invariant-loop-i
invariant-loop-i l = record {
  row : l.i < l.shares;
  passed : pairs_before l.shares l.i + l.rest ≡ l.number;
}

abbrev pub decreases-loop-i : goal.decreases-loop-i
decreases-loop-i l = l.rest
