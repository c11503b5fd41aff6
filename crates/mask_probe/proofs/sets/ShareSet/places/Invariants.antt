use Rattle.std.proofs.Common.{◌≡◌, ◌≤◌, length}
use Rattle.mask_sni.specs.Asked.{bit_shares, members}
use Rattle.mask_probe.proofs.sets.ShareSet.places.Given as goal

abbrev pub invariant-loop-share : goal.invariant-loop-share
invariant-loop-share g l = record {
  items : l.places.items ≡ members l.share (bit_shares l.self);
  few : length l.places.items ≤ l.share;
}
