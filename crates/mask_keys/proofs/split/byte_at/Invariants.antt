use Rattle.std.proofs.Common.{◌≡◌, ◌*◌, take, drop}
use Rattle.mask_bits.specs.Reading.{lowest, number}
use Rattle.mask_keys.specs.Splitting.{shares_at}
use Rattle.mask_keys.proofs.split.byte_at.Given as goal

abbrev pub invariant-loop-place : goal.invariant-loop-place
invariant-loop-place l = record {
  rest : l.rest ≡ drop (l.place * l.order) l.coins;
  done : l.shares ≡ number (take l.place (shares_at l.order l.k (lowest 8 l.byte) l.coins));
}
