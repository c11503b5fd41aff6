use Rattle.std.proofs.Common.{◌≡◌, length}
use Rattle.mask_laws.proofs.Operands.{SameShares}
use Rattle.mask_probe.specs.Sides.{byte_shares, input_shares}
use Rattle.mask_probe.proofs.sides.inputs_of.Given as goal

abbrev pub invariant-loop-value : goal.invariant-loop-value
invariant-loop-value g l = record {
  count : length l.bytes.items ≡ l.value;
  shares : SameShares g.row.N l.value (byte_shares l.bytes.items) (input_shares g.row.N l.bits);
}
