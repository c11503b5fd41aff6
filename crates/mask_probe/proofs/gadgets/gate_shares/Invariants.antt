use Rattle.std.proofs.Common.{◌≡◌, ◌<◌, ◌^◌}
use Rattle.mask_circuit.specs.Ring.{bits}
use Rattle.mask_circuit.specs.declared.gates.Wire.TheVariants.{Share}
use Rattle.mask_circuit.specs.Wires.{each, gate_draws, gate_wire}
use Rattle.mask_bits.specs.Reading.{number}
use Rattle.mask_probe.specs.Sides.{byte_shares, bits_from}
use Rattle.mask_probe.proofs.gadgets.gate_shares.Given as goal

abbrev pub invariant-loop-i : goal.invariant-loop-i
invariant-loop-i g l = record {
  bits : l.output
      ≡ number (each (λ i. gate_wire bits g.row.N l.gate (byte_shares l.shares) (bits_from l.tape l.start (gate_draws g.row.N l.gate)) (Share i)) l.i);
  small : l.output < 2 ^ l.i;
}
