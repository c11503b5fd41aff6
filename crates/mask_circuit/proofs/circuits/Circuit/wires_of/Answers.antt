use Rattle.std.proofs.Common.{ap, sym, ◌∙◌, length}
use Rattle.mask_circuit.specs.declared.gates.Wire.TheVariants.{Share}
use Rattle.mask_circuit.specs.Expansion.{names_by}
use Rattle.mask_circuit.proofs.Places.{length-each}
use Rattle.mask_circuit.proofs.circuits.Circuit.wires_of.Goals as goal

pub returns-in-None-clause-count : goal.returns-in-None-clause-count
returns-in-None-clause-count c =
    sym (ap (λ o. length (names_by c.args.shares o)) (sym c.in-None.ensures) ∙ length-each Share c.args.shares)
