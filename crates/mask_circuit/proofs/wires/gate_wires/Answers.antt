use Rattle.std.proofs.Common.{length, ap, sym, ◌∙◌, arith}
use Rattle.mask_circuit.specs.declared.gates.Wire.TheVariants.{Share}
use Rattle.mask_circuit.proofs.Numbering.{gate_names-by_share, length-product_names, length-refresh_names}
use Rattle.mask_circuit.proofs.Places.{length-each}
use Rattle.mask_circuit.proofs.wires.gate_wires.Goals as goal

pub returns-in-And-clause-count : goal.returns-in-And-clause-count
returns-in-And-clause-count c = rw (c.in-And.is, c.pair_count-pairs.ensures.value) (length-product_names c.args.shares c.requires.some c.requires.few)

pub returns-in-Ref-clause-count : goal.returns-in-Ref-clause-count
returns-in-Ref-clause-count c = rw (c.in-Ref.is, c.pair_count-pairs.ensures.value) (length-refresh_names c.args.shares c.requires.some c.requires.few)

pub returns-in-Zero : goal.returns-in-Zero
returns-in-Zero c = record {
  count = sym (ap length (gate_names-by_share c.args.shares c.args.gate c.in-Zero.is) ∙ length-each Share c.args.shares);
  most = omega arith;
}
