use Rattle.std.proofs.Common.{◌≡◌, ℕ, ◌+◌, ◌<◌, length, slice_index}
use Rattle.mask_parts.proofs.words.xor_results.Given as goal

abbrev pub invariant-loop-i : goal.invariant-loop-i
invariant-loop-i l = (length l.results ≡ 32) × ((k : ℕ) → k < l.i → slice_index l.results k ≡ l.first + k)
