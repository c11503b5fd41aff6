use Rattle.std.proofs.Common.{◌≡◌, ℕ, ◌<◌, ◌≤◌, length, get_or, bit_xor}
use Rattle.mask_self.proofs.reporting.add_block.Given as goal

abbrev pub invariant-loop-k : goal.invariant-loop-k
invariant-loop-k l = record {
  room : length l.sum ≡ 16;
  done : (j : ℕ) → j < l.k → get_or l.sum j 0 ≡ bit_xor (get_or l.initial.sum j 0) (get_or l.block j 0);
  rest : (j : ℕ) → l.k ≤ j → get_or l.sum j 0 ≡ get_or l.initial.sum j 0;
}
