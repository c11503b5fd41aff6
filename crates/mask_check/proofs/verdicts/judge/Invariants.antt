use Rattle.std.proofs.Common.{◌≡◌, ◌+◌, ◌-◌, ◌%◌, ◌<◌, ◌≤◌}
use Rattle.mask_circuit.specs.Netlist.{value_count}
use Rattle.mask_check.specs.Batches.{products_below}
use Rattle.mask_check.specs.Marks.{IsClearFrom}
use Rattle.mask_check.specs.Verdicts.{IsAcceptedBelow}
use Rattle.mask_check.proofs.Counting.{steps_below}
use Rattle.mask_check.proofs.verdicts.judge.Given as goal

abbrev pub invariant-loop-from : goal.invariant-loop-from
invariant-loop-from g l =
    (l.from ≤ value_count l.circuit)
    × IsClearFrom 0 l.left
    × IsClearFrom 0 l.right
    × IsAcceptedBelow l.circuit l.from
    × (l.from < value_count l.circuit → products_below l.circuit l.from % 64 ≡ 0)
    × (l.steps ≤ l.initial.steps + steps_below l.circuit l.from)

abbrev pub decreases-loop-from : goal.decreases-loop-from
decreases-loop-from g l = l.values - l.from
