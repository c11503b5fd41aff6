use Rattle.std.proofs.Common.{drop}
use Rattle.mask_parts.specs.Drafts.{with_gates}
use Rattle.mask_parts.proofs.Laying.{IsUnderWay}
use Rattle.mask_parts.specs.Rows.{xor_gates}
use Rattle.mask_parts.proofs.rows.xor_all.Given as goal

abbrev pub invariant-loop-k : goal.invariant-loop-k
invariant-loop-k l = IsUnderWay l.fn.b l.b (with_gates l.b (xor_gates (drop l.k l.us) (drop l.k l.vs))) (with_gates l.fn.b (xor_gates l.us l.vs))
