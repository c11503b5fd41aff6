use Rattle.std.proofs.Common.{◌≡◌, ℕ, ◌+◌, ◌<◌, length, slice_index}
use Rattle.mask_parts.specs.Words32.{sum_place}
use Rattle.mask_parts.proofs.words.sum_results.Given as goal

abbrev pub invariant-loop-i : goal.invariant-loop-i
invariant-loop-i l = (length l.results ≡ 32) × ((k : ℕ) → k < l.i → slice_index l.results k ≡ l.first + sum_place k)
