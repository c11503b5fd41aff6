use Rattle.std.proofs.Common.{◌-◌}
use Rattle.std.specs.List.{range_with_len}
use Rattle.mask_parts.specs.Drafts.{with_outputs}
use Rattle.mask_parts.proofs.Laying.{IsUnderWay}
use Rattle.mask_parts.proofs.fences.out_all.Given as goal

abbrev pub invariant-loop-value : goal.invariant-loop-value
invariant-loop-value l =
    IsUnderWay l.fn.b l.b (with_outputs l.b (range_with_len l.value (l.end - l.value))) (with_outputs l.fn.b (range_with_len l.first (l.end - l.first)))
