use Rattle.std.proofs.Common.{subst}
use Rattle.mask_circuit.specs.Netlist.{Netlist}
use Rattle.mask_probe.specs.Asking.{AreProbes}
use Rattle.mask_probe.specs.Sides.{input_shares}
use Rattle.mask_probe.proofs.Shifted.{placed_fit, placed_shift, shift_length, shift_seen, shift_back}
use Rattle.mask_probe.proofs.tapes.shift_tape.Goals as goal

pub shifted-requires-clause-fits : goal.shifted-requires-clause-fits
shifted-requires-clause-fits g c =
    let asked : AreProbes c.circuit.result.now g.row.N c.args.probes.now = c.in_ok-placed.ensures.asked in
    placed_fit c.args.circuit.now c.circuit.result.now c.circuit-2.result.now g.row.N c.args.probes.now c.in_ok-placed.placed.items c.deref-2.result.now
    c.circuit.ensures.same c.circuit-2.ensures.same c.in_ok-placed.ensures.places c.deref-2.ensures.0 c.circuit.ensures.circuit c.circuit.ensures.accepted
    asked.few

pub returns-clause-shift : goal.returns-clause-shift
returns-clause-shift g c =
    placed_shift c.args.circuit.now c.circuit.result.now c.circuit-2.result.now g.row.N c.args.probes.now c.in_ok-placed.placed.items c.deref-2.result.now
    c.circuit.ensures.same c.circuit-2.ensures.same c.in_ok-placed.ensures.places c.deref-2.ensures.0
    (input_shares g.row.N c.args.x.now) (input_shares g.row.N c.args.y.now) c.args.tape.now c.in_ok-shifted.field-0 c.in_ok-shifted.ensures

pub returns-clause-long : goal.returns-clause-long
returns-clause-long g c =
    shift_length c.args.circuit.now g.row.N c.args.probes.now (input_shares g.row.N c.args.x.now) (input_shares g.row.N c.args.y.now) c.args.tape.now
    c.in_ok-shifted.field-0 c.requires.tape (returns-clause-shift g c)

pub returns-clause-keeps : goal.returns-clause-keeps
returns-clause-keeps g c =
    let asked : AreProbes c.args.circuit.now g.row.N c.args.probes.now
    = subst (λ (d : Netlist). AreProbes d g.row.N c.args.probes.now) c.circuit.ensures.same c.in_ok-placed.ensures.asked in
    λ agree. shift_seen c.args.circuit.now g.row.N c.args.probes.now (input_shares g.row.N c.args.x.now) (input_shares g.row.N c.args.y.now) c.args.tape.now
    c.in_ok-shifted.field-0 c.requires.some c.circuit.ensures.circuit c.circuit.ensures.accepted asked c.requires.tape (returns-clause-shift g c) agree

pub returns-clause-returns : goal.returns-clause-returns
returns-clause-returns g c =
    shift_back c.args.circuit.now g.row.N c.args.probes.now (input_shares g.row.N c.args.x.now) (input_shares g.row.N c.args.y.now) c.args.tape.now
    c.in_ok-shifted.field-0 c.requires.tape (returns-clause-shift g c)
