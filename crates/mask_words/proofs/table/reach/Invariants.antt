use Rattle.std.proofs.Common.{length, ◌-◌, ◌≡◌, ◌+◌, ◌≤◌, drop}
use Rattle.mask_words.specs.Jobs.{reach}
use Rattle.mask_words.proofs.table.reach.Given as goal

-- what is reached from here on adds up to what is reached in all
abbrev pub invariant-loop-passed : goal.invariant-loop-passed
invariant-loop-passed l = record {
  in_words : l.passed ≤ length l.words;
  adds_up : l.passed + reach (drop l.passed l.tests) l.tail (drop l.passed l.words) ≡ reach l.tests l.tail l.words;
}

abbrev pub decreases-loop-passed : goal.decreases-loop-passed
decreases-loop-passed l = length l.words - l.passed
