use Rattle.std.proofs.Common.{◌≡◌, ℕ, ◌*◌, ◌<◌, take}
use Rattle.mask_bits.specs.Reading.{low}
use Rattle.mask_bits.specs.Lanes.{lane}
use Rattle.mask_modes.specs.Steps.{block_at}
use Rattle.mask_counter.specs.Blocks.{ordered}
use Rattle.mask_counter.proofs.words.block_words.Given as goal

abbrev pub invariant-loop-part : goal.invariant-loop-part
invariant-loop-part l = (m : ℕ) → m < 64 → lane m (take (64 * l.part) l.words) ≡ low (take (8 * l.part) (ordered l.order (block_at l.block l.bytes m)))
