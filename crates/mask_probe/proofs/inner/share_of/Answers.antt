use Rattle.std.proofs.Common.{◌≡◌, length, ap, arith}
use Rattle.mask_circuit.specs.declared.gates.Wire.TheVariants.{Share}
use Rattle.mask_circuit.specs.Wires.{share_names}
use Rattle.mask_circuit.specs.Expansion.{names_by}
use Rattle.mask_circuit.proofs.Places.{length-each}
use Rattle.mask_probe.proofs.OwnProbes.{share_at}
use Rattle.mask_probe.proofs.inner.share_of.Goals as goal

pub returns-in-None-clause-share : goal.returns-in-None-clause-share
returns-in-None-clause-share g c =
    let alone : names_by g.row.N c.args.gate ≡ share_names g.row.N = ap (names_by g.row.N) c.in-None.is in
    share_at _ g.row.N c.args.part alone (omega (arith, ap length alone, length-each Share g.row.N))

pub returns-in-None-clause-below : goal.returns-in-None-clause-below
returns-in-None-clause-below g c =
    let alone : names_by g.row.N c.args.gate ≡ share_names g.row.N = ap (names_by g.row.N) c.in-None.is in
    omega (arith, ap length alone, length-each Share g.row.N)
