use Rattle.std.proofs.Common.{◌≡◌, ◌<◌, ◌^◌}
use Rattle.mask_circuit.specs.Wires.{each}
use Rattle.mask_bits.specs.Reading.{number}
use Rattle.mask_probe.specs.Sides.{input_shares}
use Rattle.mask_probe.proofs.sides.input_of.Given as goal

abbrev pub invariant-loop-i : goal.invariant-loop-i
invariant-loop-i g l = record {
  bits : l.shares ≡ number (each (input_shares g.row.N l.bits l.value) l.i);
  small : l.shares < 2 ^ l.i;
}
