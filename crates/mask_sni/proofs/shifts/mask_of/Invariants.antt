use Rattle.std.proofs.Common.{◌≡◌, ◌<◌, ◌^◌, map, take}
use Rattle.mask_circuit.specs.Wires.{pairs}
use Rattle.mask_bits.specs.Reading.{number}
use Rattle.mask_sni.specs.Asked.{in_places}
use Rattle.mask_sni.specs.Kinds.{mask_of}
use Rattle.mask_sni.proofs.shifts.mask_of.Given as goal

abbrev pub invariant-loop-p : goal.invariant-loop-p
invariant-loop-p l = record {
  bits : l.mask ≡ number (take l.p (map (λ p. mask_of l.operands l.n l.wires (in_places l.outputs.items) p.0 p.1) (pairs l.n)));
  small : l.mask < 2 ^ l.p;
}
