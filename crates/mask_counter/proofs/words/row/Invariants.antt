use Rattle.std.proofs.Common.{◌≡◌, ◌+◌, ◌-◌, take, drop}
use Rattle.mask_bits.specs.Reading.{low, number}
use Rattle.mask_modes.specs.Steps.{block_at}
use Rattle.mask_counter.specs.Blocks.{ordered}
use Rattle.mask_counter.proofs.words.row.Given as goal

abbrev pub invariant-loop-k : goal.invariant-loop-k
invariant-loop-k l = l.number ≡ number (low (take l.k (drop (l.first + 8 - l.k) (ordered l.order (block_at l.block l.bytes l.l)))))
