use Rattle.std.proofs.Common.{◌≡◌, ℕ, ◌*◌, ◌<◌, length, take, drop, get_or}
use Rattle.mask_bits.specs.Reading.{low, number}
use Rattle.mask_modes.specs.Steps.{block_at}
use Rattle.mask_counter.specs.Blocks.{ordered}
use Rattle.mask_counter.proofs.words.square.Given as goal

abbrev pub invariant-loop-l : goal.invariant-loop-l
invariant-loop-l l = record {
  count : length l.rows ≡ 64;
  made : (k : ℕ) → k < l.l → get_or l.rows k 0 ≡ number (low (take 8 (drop (8 * l.part) (ordered l.order (block_at l.block l.bytes k)))));
}
