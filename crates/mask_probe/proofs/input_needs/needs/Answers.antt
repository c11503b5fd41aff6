use Rattle.mask_laws.proofs.Gates.{gate_keeps}
use Rattle.mask_laws.proofs.Simulation.{accepted_is_simulated}
use Rattle.mask_probe.proofs.input_needs.needs.Goals as goal

pub returns-clause-few_shares : goal.returns-clause-few_shares
returns-clause-few_shares g c =
    let asked = rw c.circuit.ensures.same at c.in_ok-placed.ensures.asked in
    let law = accepted_is_simulated gate_keeps c.args.circuit.now g.row.N c.args.probes.now c.requires.some c.circuit.ensures.circuit.formed.gates
    c.circuit.ensures.accepted asked.wires asked.few in law.0

pub returns-clause-simulated : goal.returns-clause-simulated
returns-clause-simulated g c =
    let asked = rw c.circuit.ensures.same at c.in_ok-placed.ensures.asked in
    let law = accepted_is_simulated gate_keeps c.args.circuit.now g.row.N c.args.probes.now c.requires.some c.circuit.ensures.circuit.formed.gates
    c.circuit.ensures.accepted asked.wires asked.few in law.1
