use Rattle.std.proofs.Common.{◌≡◌, length, take}
use Rattle.mask_sni.specs.Asked.{wires_at}
use Rattle.mask_sni.specs.Kinds.{names_for}
use Rattle.mask_sni.proofs.wires.probed_wires.Given as goal

abbrev pub invariant-loop-number : goal.invariant-loop-number
invariant-loop-number l = record {
  wires : l.wires.items ≡ wires_at (names_for l.n l.kind) (take l.number-index l.numbers);
  count : length l.wires.items ≡ l.number-index;
}
