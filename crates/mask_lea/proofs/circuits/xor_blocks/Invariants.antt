use Rattle.std.proofs.Common.{drop}
use Rattle.mask_parts.proofs.Laying.{IsUnderWay}
use Rattle.mask_lea.specs.NamedLea.{with_blocks_xored}
use Rattle.mask_lea.proofs.circuits.xor_blocks.Given as goal

abbrev pub invariant-loop-k : goal.invariant-loop-k
invariant-loop-k l = IsUnderWay l.fn.b l.b (with_blocks_xored l.b (drop l.k l.xs) (drop l.k l.ys)) (with_blocks_xored l.fn.b l.xs l.ys)
