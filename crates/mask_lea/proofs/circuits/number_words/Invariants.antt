use Rattle.std.proofs.Common.{◌≡◌, ℕ, ◌+◌, ◌*◌, ◌<◌, [], slice_index_or}
use Rattle.std.specs.List.{range_with_len}
use Rattle.mask_lea.proofs.circuits.number_words.Given as goal

abbrev pub invariant-loop-k : goal.invariant-loop-k
invariant-loop-k l = (i : ℕ) → i < l.k → slice_index_or l.words i [] ≡ range_with_len (l.first + 32 * i) 32
