use Rattle.std.proofs.Common.{◌≡◌, [], length, take, map, get_or, All}
use Rattle.mask_eval.proofs.words.copy_values.Given as goal

abbrev pub invariant-loop-k : goal.invariant-loop-k
invariant-loop-k g l = record {
  copies : take l.k l.copies ≡ map (λ u. get_or l.values u []) (take l.k l.numbers);
  counts : All (λ v. length v ≡ g.row.N) (take l.k l.copies);
}
