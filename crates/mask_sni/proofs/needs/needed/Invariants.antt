use Rattle.std.proofs.Common.{◌≡◌, ◌≤◌, length}
use Rattle.mask_sni.specs.Asked.{members}
use Rattle.mask_sni.specs.Kinds.{needed}
use Rattle.mask_sni.proofs.needs.needed.Given as goal

abbrev pub invariant-loop-i : goal.invariant-loop-i
invariant-loop-i l = record {
  items : l.shares.items ≡ members l.i (needed l.operand l.wires);
  few : length l.shares.items ≤ l.i;
}
