use Rattle.std.proofs.Common.{drop, map}
use Rattle.mask_circuit.specs.declared.gates.Gate.TheVariants.{Ref}
use Rattle.mask_parts.specs.Drafts.{with_gates}
use Rattle.mask_parts.proofs.Laying.{IsUnderWay}
use Rattle.mask_parts.proofs.fences.refresh_all.Given as goal

abbrev pub invariant-loop-value : goal.invariant-loop-value
invariant-loop-value l =
    IsUnderWay l.fn.b l.b (with_gates l.b (map Ref (drop l.value-index l.values))) (with_gates l.fn.b (map Ref l.values))
