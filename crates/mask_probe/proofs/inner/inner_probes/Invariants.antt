use Rattle.std.proofs.Common.{◌≤◌, length, take}
use Rattle.mask_probe.proofs.OwnProbes.{AreInner}
use Rattle.mask_probe.proofs.inner.inner_probes.Given as goal

abbrev pub invariant-loop-probe : goal.invariant-loop-probe
invariant-loop-probe g l = record {
  so_far : AreInner l.circuit g.row.N l.value (take l.probe-index l.placed) l.inner.items;
  few : length l.inner.items ≤ l.probe-index;
}
