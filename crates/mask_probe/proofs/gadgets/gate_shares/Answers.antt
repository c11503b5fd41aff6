use Rattle.std.proofs.Common.{ℕ, Bool, arith}
use Rattle.mask_circuit.specs.Ring.{bits}
use Rattle.mask_circuit.specs.declared.gates.Wire.TheVariants.{Share}
use Rattle.mask_circuit.specs.Wires.{gate_draws, gate_wire}
use Rattle.mask_probe.specs.Sides.{byte_shares, bits_from}
use Rattle.mask_probe.proofs.Packing.{number_more, number_bit}
use Rattle.mask_probe.proofs.gadgets.gate_shares.Goals as goal

pub loop-i-preserved : goal.loop-i-preserved
loop-i-preserved g c =
    let f : ℕ → Bool = λ i. gate_wire bits g.row.N c.args.gate (byte_shares c.args.shares.now) (bits_from c.args.tape.now c.args.start (gate_draws g.row.N c.args.gate)) (Share i) in
    record {
      bits = number_more f c.loop-i.i c.loop-i.output c.append_share-output.result c.gate_share.result c.loop-i.invariant.bits c.gate_share.ensures c.append_share-output.ensures.value;
      small = c.append_share-output.ensures.below;
    }

pub returns : goal.returns
returns g c =
    let f : ℕ → Bool = λ i. gate_wire bits g.row.N c.args.gate (byte_shares c.args.shares.now) (bits_from c.args.tape.now c.args.start (gate_draws g.row.N c.args.gate)) (Share i) in
    λ i lt. number_bit f g.row.N c.loop-i.i c.loop-i.output i c.loop-i.invariant.bits (omega arith) lt
