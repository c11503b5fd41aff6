use Rattle.std.proofs.Common.{◌≡◌, take, length}
use Rattle.mask_probe.proofs.Locating.{AreLocated}
use Rattle.mask_probe.proofs.places.locate.Given as goal

abbrev pub invariant-loop-place : goal.invariant-loop-place
invariant-loop-place g l = record {
  count : length l.placed.items ≡ l.place;
  located : AreLocated l.circuit g.row.N (take l.place l.probes) l.placed.items;
}
