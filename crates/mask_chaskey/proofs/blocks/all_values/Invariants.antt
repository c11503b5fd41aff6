use Rattle.std.proofs.Common.{◌≡◌, ◌*◌, length, take}
use Rattle.std.specs.List.{concat}
use Rattle.mask_chaskey.proofs.blocks.all_values.Given as goal

abbrev pub invariant-loop-k : goal.invariant-loop-k
invariant-loop-k l = record {
  long : length l.values ≡ 128;
  so_far : take (32 * l.k) l.values ≡ concat (take l.k l.words);
}
