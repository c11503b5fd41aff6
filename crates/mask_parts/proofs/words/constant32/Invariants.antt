use Rattle.std.proofs.Common.{◌≡◌, ℕ, ◌<◌, length, slice_index, if◌then◌else◌}
use Rattle.mask_bits.specs.Reading.{bit}
use Rattle.mask_parts.proofs.words.constant32.Given as goal

abbrev pub invariant-loop-i : goal.invariant-loop-i
invariant-loop-i l = (length l.bits ≡ 32) × ((k : ℕ) → k < l.i → slice_index l.bits k ≡ if bit k l.word then l.one else l.zero)
