use Rattle.std.proofs.Common.{◌≡◌, ◌*◌, length, take, drop}
use Rattle.mask_bits.specs.Reading.{low}
use Rattle.mask_keys.specs.Splitting.{packed, shares_at}
use Rattle.mask_keys.proofs.split.line_at.Given as goal

abbrev pub invariant-loop-b : goal.invariant-loop-b
invariant-loop-b l = record {
  rest : l.rest ≡ drop (l.b * (8 * l.order)) l.coins;
  room : length l.line ≡ 64;
  done : take l.b l.line ≡ packed l.b (shares_at l.order l.k (low l.key) l.coins);
}
