use Rattle.std.proofs.Common.{◌≤◌, length}
use Rattle.mask_probe.specs.Placing.{wires_of}
use Rattle.mask_probe.proofs.Demanding.{AreDemanded}
use Rattle.mask_probe.proofs.demands.demanded.Given as goal

abbrev pub invariant-loop-left : goal.invariant-loop-left
invariant-loop-left g l = record {
  within : l.left ≤ length l.gates;
  so_far : AreDemanded l.circuit g.row.N (wires_of l.circuit g.row.N l.placed) l.left l.sets.items;
}

abbrev pub decreases-loop-left : goal.decreases-loop-left
decreases-loop-left g l = l.left
