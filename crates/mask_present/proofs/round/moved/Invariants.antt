use Rattle.std.proofs.Common.{◌≡◌, ℕ, ◌<◌, length, slice_index}
use Rattle.mask_present.specs.Rounds.{source}
use Rattle.mask_present.proofs.round.moved.Given as goal

abbrev pub invariant-loop-i : goal.invariant-loop-i
invariant-loop-i l = (length l.result ≡ 64) × ((k : ℕ) → k < l.i → slice_index l.result k ≡ slice_index l.block (source k))
