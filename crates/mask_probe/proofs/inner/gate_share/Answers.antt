use Rattle.std.proofs.Common.{◌<◌, length, ap, arith}
use Rattle.mask_circuit.specs.declared.gates.Wire.TheVariants.{Share}
use Rattle.mask_circuit.specs.declared.gates.Gate.TheVariants.{And, Ref}
use Rattle.mask_circuit.proofs.Numbering.{gate_names-by_share}
use Rattle.mask_circuit.proofs.Places.{length-each}
use Rattle.mask_probe.proofs.OwnProbes.{share_below, share_at}
use Rattle.mask_probe.proofs.inner.gate_share.Goals as goal

pub returns-in-And-clause-below : goal.returns-in-And-clause-below
returns-in-And-clause-below g c =
    rw c.and_share.ensures (share_below g.row.N (And 0 0) c.args.part c.requires.some (rw c.in-And.is at c.requires.known))

pub returns-in-Ref-clause-below : goal.returns-in-Ref-clause-below
returns-in-Ref-clause-below g c =
    rw c.ref_share.ensures (share_below g.row.N (Ref 0) c.args.part c.requires.some (rw c.in-Ref.is at c.requires.known))

pub returns-in-Zero : goal.returns-in-Zero
returns-in-Zero g c =
    let alone = gate_names-by_share g.row.N c.args.gate c.in-Zero.is in
    let below : c.args.part < g.row.N = omega (arith, ap length alone, length-each Share g.row.N) in
    record { share = share_at _ g.row.N c.args.part alone below; below = below }
