use Rattle.std.proofs.Common.{◌≡◌, ℕ, ◌<◌, length, get_or, bit_xor}
use Rattle.mask_shares.proofs.Shares.xor.Given as goal

abbrev pub invariant-loop-i : goal.invariant-loop-i
invariant-loop-i g l = record {
  count : length l.words ≡ g.row.N;
  done : (k : ℕ) → k < l.i → get_or l.words k 0 ≡ bit_xor (get_or l.fn.self k 0) (get_or l.fn.other k 0);
}
