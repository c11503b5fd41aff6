use Rattle.std.proofs.Common.{◌≡◌, ◌+◌, ◌++◌, length, take, drop, All}
use Rattle.mask_chain.proofs.inputs.put.Given as goal

abbrev pub invariant-loop-k : goal.invariant-loop-k
invariant-loop-k g l = record {
  front : take (l.start + l.k) l.places ≡ take l.start l.fn.places ++ take l.k l.shares;
  rest : drop (l.start + length l.shares) l.places ≡ drop (l.start + length l.shares) l.fn.places;
  counts : All (λ s. length s ≡ g.row.N) (take l.k l.shares);
}
