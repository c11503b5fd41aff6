use Rattle.std.proofs.Common.{map, refl, ap, ◌∙◌}
use Rattle.std.proofs.lemmas.Result.{err_from_is_err_and}
use Rattle.mask_circuit.specs.Netlist.{Netlist}
use Rattle.mask_circuit.specs.Labels.{NamedGroup}
use Rattle.mask_circuit.specs.Text.{Second, Input, Makes, End, output_lines, spelling, canonical2}
use Rattle.mask_text.proofs.Parts.{alone, second_parts, stopped1, stopped2, stopped3, stopped4, stopped5, sent5}
use Rattle.mask_text.proofs.write.write_labelled.Goals as goal

pub returns-in_err-write_all-clause-sends : goal.returns-in_err-write_all-clause-sends
returns-in_err-write_all-clause-sends g c =
    let fault = err_from_is_err_and c.from_residual.result c.from_residual.ensures.1 in
    rw fault.1 (stopped1 (canonical2 c.args.labelled.now) (alone Second)
    (spelling (map (λ (h : NamedGroup). Input h.name h.size) c.args.labelled.now.inputs))
    (spelling (map Makes c.args.labelled.now.circuit.gates))
    (spelling (output_lines c.args.labelled.now.outputs c.args.labelled.now.circuit.outputs)) (alone End)
    (second_parts c.args.labelled.now c.args.labelled.now.inputs c.args.labelled.now.circuit.gates c.args.labelled.now.outputs
    c.args.labelled.now.circuit.outputs refl refl refl refl)
    (g.O.Sink.written c.args.sink.now) (g.O.Sink.written c.write_all.new.sink) (g.O.Sink.written c.args.sink.now)
    (g.O.Sink.written c.args.sink.now) (g.O.Sink.written c.args.sink.now) (g.O.Sink.written c.args.sink.now)
    c.in_err-write_all.ensures.part)

pub returns-in_err-write_input_groups-clause-sends : goal.returns-in_err-write_input_groups-clause-sends
returns-in_err-write_input_groups-clause-sends g c =
    let fault = err_from_is_err_and c.from_residual-in_err-write_input_groups.result c.from_residual-in_err-write_input_groups.ensures.1 in
    rw fault.1 (stopped2 (canonical2 c.args.labelled.now) (alone Second)
    (spelling (map (λ (h : NamedGroup). Input h.name h.size) c.input_groups.result.now))
    (spelling (map Makes c.args.labelled.now.circuit.gates))
    (spelling (output_lines c.args.labelled.now.outputs c.args.labelled.now.circuit.outputs)) (alone End)
    (second_parts c.args.labelled.now c.input_groups.result.now c.args.labelled.now.circuit.gates c.args.labelled.now.outputs
    c.args.labelled.now.circuit.outputs c.input_groups.ensures.same refl refl refl)
    (g.O.Sink.written c.args.sink.now) (g.O.Sink.written c.write_all.new.sink) (g.O.Sink.written c.write_input_groups.new.sink)
    (g.O.Sink.written c.args.sink.now) (g.O.Sink.written c.args.sink.now) (g.O.Sink.written c.args.sink.now)
    c.in_ok-write_all.ensures.whole c.in_err-write_input_groups.ensures.sends)

pub returns-in_err-write_gates-clause-sends : goal.returns-in_err-write_gates-clause-sends
returns-in_err-write_gates-clause-sends g c =
    let fault = err_from_is_err_and c.from_residual-in_err-write_gates.result c.from_residual-in_err-write_gates.ensures.1 in
    rw fault.1 (stopped3 (canonical2 c.args.labelled.now) (alone Second)
    (spelling (map (λ (h : NamedGroup). Input h.name h.size) c.input_groups.result.now)) (spelling (map Makes c.gates.result.now))
    (spelling (output_lines c.args.labelled.now.outputs c.args.labelled.now.circuit.outputs)) (alone End)
    (second_parts c.args.labelled.now c.input_groups.result.now c.gates.result.now c.args.labelled.now.outputs
    c.args.labelled.now.circuit.outputs c.input_groups.ensures.same
    (c.gates.ensures.same ∙ ap (λ (n : Netlist). n.gates) c.circuit-circuit.ensures.same) refl refl)
    (g.O.Sink.written c.args.sink.now) (g.O.Sink.written c.write_all.new.sink) (g.O.Sink.written c.write_input_groups.new.sink)
    (g.O.Sink.written c.write_gates.new.sink) (g.O.Sink.written c.args.sink.now) (g.O.Sink.written c.args.sink.now)
    c.in_ok-write_all.ensures.whole c.in_ok-write_input_groups.ensures.sends c.in_err-write_gates.ensures.sends)

pub returns-in_err-write_output_groups-clause-sends : goal.returns-in_err-write_output_groups-clause-sends
returns-in_err-write_output_groups-clause-sends g c =
    let fault = err_from_is_err_and c.from_residual-in_err-write_output_groups.result c.from_residual-in_err-write_output_groups.ensures.1 in
    rw fault.1 (stopped4 (canonical2 c.args.labelled.now) (alone Second)
    (spelling (map (λ (h : NamedGroup). Input h.name h.size) c.input_groups.result.now)) (spelling (map Makes c.gates.result.now))
    (spelling (output_lines c.output_groups.result.now c.outputs.result.now)) (alone End)
    (second_parts c.args.labelled.now c.input_groups.result.now c.gates.result.now c.output_groups.result.now c.outputs.result.now
    c.input_groups.ensures.same (c.gates.ensures.same ∙ ap (λ (n : Netlist). n.gates) c.circuit-circuit.ensures.same)
    c.output_groups.ensures.same (c.outputs.ensures.same ∙ ap (λ (n : Netlist). n.outputs) c.circuit-circuit.ensures.same))
    (g.O.Sink.written c.args.sink.now) (g.O.Sink.written c.write_all.new.sink) (g.O.Sink.written c.write_input_groups.new.sink)
    (g.O.Sink.written c.write_gates.new.sink) (g.O.Sink.written c.write_output_groups.new.sink)
    (g.O.Sink.written c.args.sink.now) c.in_ok-write_all.ensures.whole c.in_ok-write_input_groups.ensures.sends
    c.in_ok-write_gates.ensures.sends c.in_err-write_output_groups.ensures.sends)

pub returns-in_err-write_all-2-clause-sends : goal.returns-in_err-write_all-2-clause-sends
returns-in_err-write_all-2-clause-sends g c =
    let fault = err_from_is_err_and c.from_residual-in_err-write_all-2.result c.from_residual-in_err-write_all-2.ensures.1 in
    rw fault.1 (stopped5 (canonical2 c.args.labelled.now) (alone Second)
    (spelling (map (λ (h : NamedGroup). Input h.name h.size) c.input_groups.result.now)) (spelling (map Makes c.gates.result.now))
    (spelling (output_lines c.output_groups.result.now c.outputs.result.now)) (alone End)
    (second_parts c.args.labelled.now c.input_groups.result.now c.gates.result.now c.output_groups.result.now c.outputs.result.now
    c.input_groups.ensures.same (c.gates.ensures.same ∙ ap (λ (n : Netlist). n.gates) c.circuit-circuit.ensures.same)
    c.output_groups.ensures.same (c.outputs.ensures.same ∙ ap (λ (n : Netlist). n.outputs) c.circuit-circuit.ensures.same))
    (g.O.Sink.written c.args.sink.now) (g.O.Sink.written c.write_all.new.sink) (g.O.Sink.written c.write_input_groups.new.sink)
    (g.O.Sink.written c.write_gates.new.sink) (g.O.Sink.written c.write_output_groups.new.sink)
    (g.O.Sink.written c.write_all-2.new.sink) c.in_ok-write_all.ensures.whole c.in_ok-write_input_groups.ensures.sends
    c.in_ok-write_gates.ensures.sends c.in_ok-write_output_groups.ensures.sends c.in_err-write_all-2.ensures.part)

pub returns-clause-sends : goal.returns-clause-sends
returns-clause-sends g c =
    sent5 (canonical2 c.args.labelled.now) (alone Second) (spelling
    (map (λ (h : NamedGroup). Input h.name h.size) c.input_groups.result.now)) (spelling (map Makes c.gates.result.now))
    (spelling (output_lines c.output_groups.result.now c.outputs.result.now)) (alone End)
    (second_parts c.args.labelled.now c.input_groups.result.now c.gates.result.now c.output_groups.result.now c.outputs.result.now
    c.input_groups.ensures.same (c.gates.ensures.same ∙ ap (λ (n : Netlist). n.gates) c.circuit-circuit.ensures.same)
    c.output_groups.ensures.same (c.outputs.ensures.same ∙ ap (λ (n : Netlist). n.outputs) c.circuit-circuit.ensures.same))
    (g.O.Sink.written c.args.sink.now) (g.O.Sink.written c.write_all.new.sink) (g.O.Sink.written c.write_input_groups.new.sink)
    (g.O.Sink.written c.write_gates.new.sink) (g.O.Sink.written c.write_output_groups.new.sink)
    (g.O.Sink.written c.write_all-2.new.sink) c.in_ok-write_all.ensures.whole c.in_ok-write_input_groups.ensures.sends
    c.in_ok-write_gates.ensures.sends c.in_ok-write_output_groups.ensures.sends c.in_ok-write_all-2.ensures.whole
