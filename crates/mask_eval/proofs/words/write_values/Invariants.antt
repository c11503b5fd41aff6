use Rattle.std.proofs.Common.{◌≡◌, ◌*◌, length, take, All}
use Rattle.std.specs.List.{concat}
use Rattle.mask_eval.proofs.words.write_values.Given as goal

abbrev pub invariant-loop-k : goal.invariant-loop-k
invariant-loop-k g l = record {
  words : take (g.row.N * l.k) l.words ≡ concat (take l.k l.values);
  counts : All (λ v. length v ≡ g.row.N) (take l.k l.values);
}
