use Rattle.std.proofs.Common.{ℕ, map, refl, ap, ◌∙◌}
use Rattle.std.proofs.lemmas.Result.{err_from_is_err_and}
use Rattle.mask_circuit.specs.Text.{First, Inputs, Makes, Out, End, spelling, canonical}
use Rattle.mask_text.proofs.Parts.{alone, first_parts, stopped1, stopped2, stopped3, stopped4, stopped5, sent5}
use Rattle.mask_text.proofs.write.write_circuit.Goals as goal

pub returns-in_err-write_all-clause-sends : goal.returns-in_err-write_all-clause-sends
returns-in_err-write_all-clause-sends g c =
    let fault = err_from_is_err_and c.from_residual.result c.from_residual.ensures.1 in
    rw fault.1 (stopped1 (canonical c.args.circuit.now) (alone First) (alone (Inputs c.args.circuit.now.inputs))
    (spelling (map Makes c.args.circuit.now.gates)) (spelling (map Out c.args.circuit.now.outputs)) (alone End)
    (first_parts c.args.circuit.now (alone (Inputs c.args.circuit.now.inputs)) c.args.circuit.now.gates c.args.circuit.now.outputs
    refl refl refl)
    (g.O.Sink.written c.args.sink.now) (g.O.Sink.written c.write_all.new.sink) (g.O.Sink.written c.args.sink.now)
    (g.O.Sink.written c.args.sink.now) (g.O.Sink.written c.args.sink.now) (g.O.Sink.written c.args.sink.now)
    c.in_err-write_all.ensures.part)

pub returns-in_err-write_all-2-clause-sends : goal.returns-in_err-write_all-2-clause-sends
returns-in_err-write_all-2-clause-sends g c =
    let fault = err_from_is_err_and c.from_residual-in_err-write_all-2.result c.from_residual-in_err-write_all-2.ensures.1 in
    rw fault.1 (stopped2 (canonical c.args.circuit.now) (alone First) c.deref.result.now (spelling (map Makes c.args.circuit.now.gates))
    (spelling (map Out c.args.circuit.now.outputs)) (alone End)
    (first_parts c.args.circuit.now c.deref.result.now c.args.circuit.now.gates c.args.circuit.now.outputs
    (c.deref.ensures.0 ∙ c.numbered.ensures ∙ ap (λ (n : ℕ). alone (Inputs n)) c.inputs.ensures) refl refl)
    (g.O.Sink.written c.args.sink.now) (g.O.Sink.written c.write_all.new.sink) (g.O.Sink.written c.write_all-2.new.sink)
    (g.O.Sink.written c.args.sink.now) (g.O.Sink.written c.args.sink.now) (g.O.Sink.written c.args.sink.now)
    c.in_ok-write_all.ensures.whole c.in_err-write_all-2.ensures.part)

pub returns-in_err-write_gates-clause-sends : goal.returns-in_err-write_gates-clause-sends
returns-in_err-write_gates-clause-sends g c =
    let fault = err_from_is_err_and c.from_residual-in_err-write_gates.result c.from_residual-in_err-write_gates.ensures.1 in
    rw fault.1 (stopped3 (canonical c.args.circuit.now) (alone First) c.deref.result.now (spelling (map Makes c.gates.result.now))
    (spelling (map Out c.args.circuit.now.outputs)) (alone End)
    (first_parts c.args.circuit.now c.deref.result.now c.gates.result.now c.args.circuit.now.outputs
    (c.deref.ensures.0 ∙ c.numbered.ensures ∙ ap (λ (n : ℕ). alone (Inputs n)) c.inputs.ensures) c.gates.ensures.same refl)
    (g.O.Sink.written c.args.sink.now) (g.O.Sink.written c.write_all.new.sink) (g.O.Sink.written c.write_all-2.new.sink)
    (g.O.Sink.written c.write_gates.new.sink) (g.O.Sink.written c.args.sink.now) (g.O.Sink.written c.args.sink.now)
    c.in_ok-write_all.ensures.whole c.in_ok-write_all-2.ensures.whole c.in_err-write_gates.ensures.sends)

pub returns-in_err-write_outs-clause-sends : goal.returns-in_err-write_outs-clause-sends
returns-in_err-write_outs-clause-sends g c =
    let fault = err_from_is_err_and c.from_residual-in_err-write_outs.result c.from_residual-in_err-write_outs.ensures.1 in
    rw fault.1 (stopped4 (canonical c.args.circuit.now) (alone First) c.deref.result.now (spelling (map Makes c.gates.result.now))
    (spelling (map Out c.outputs.result.now)) (alone End)
    (first_parts c.args.circuit.now c.deref.result.now c.gates.result.now c.outputs.result.now
    (c.deref.ensures.0 ∙ c.numbered.ensures ∙ ap (λ (n : ℕ). alone (Inputs n)) c.inputs.ensures) c.gates.ensures.same
    c.outputs.ensures.same)
    (g.O.Sink.written c.args.sink.now) (g.O.Sink.written c.write_all.new.sink) (g.O.Sink.written c.write_all-2.new.sink)
    (g.O.Sink.written c.write_gates.new.sink) (g.O.Sink.written c.write_outs.new.sink) (g.O.Sink.written c.args.sink.now)
    c.in_ok-write_all.ensures.whole c.in_ok-write_all-2.ensures.whole c.in_ok-write_gates.ensures.sends
    c.in_err-write_outs.ensures.sends)

pub returns-in_err-write_all-3-clause-sends : goal.returns-in_err-write_all-3-clause-sends
returns-in_err-write_all-3-clause-sends g c =
    let fault = err_from_is_err_and c.from_residual-in_err-write_all-3.result c.from_residual-in_err-write_all-3.ensures.1 in
    rw fault.1 (stopped5 (canonical c.args.circuit.now) (alone First) c.deref.result.now (spelling (map Makes c.gates.result.now))
    (spelling (map Out c.outputs.result.now)) (alone End)
    (first_parts c.args.circuit.now c.deref.result.now c.gates.result.now c.outputs.result.now
    (c.deref.ensures.0 ∙ c.numbered.ensures ∙ ap (λ (n : ℕ). alone (Inputs n)) c.inputs.ensures) c.gates.ensures.same
    c.outputs.ensures.same)
    (g.O.Sink.written c.args.sink.now) (g.O.Sink.written c.write_all.new.sink) (g.O.Sink.written c.write_all-2.new.sink)
    (g.O.Sink.written c.write_gates.new.sink) (g.O.Sink.written c.write_outs.new.sink) (g.O.Sink.written c.write_all-3.new.sink)
    c.in_ok-write_all.ensures.whole c.in_ok-write_all-2.ensures.whole c.in_ok-write_gates.ensures.sends
    c.in_ok-write_outs.ensures.sends c.in_err-write_all-3.ensures.part)

pub returns-clause-sends : goal.returns-clause-sends
returns-clause-sends g c =
    sent5 (canonical c.args.circuit.now) (alone First) c.deref.result.now (spelling (map Makes c.gates.result.now))
    (spelling (map Out c.outputs.result.now)) (alone End)
    (first_parts c.args.circuit.now c.deref.result.now c.gates.result.now c.outputs.result.now
    (c.deref.ensures.0 ∙ c.numbered.ensures ∙ ap (λ (n : ℕ). alone (Inputs n)) c.inputs.ensures) c.gates.ensures.same
    c.outputs.ensures.same)
    (g.O.Sink.written c.args.sink.now) (g.O.Sink.written c.write_all.new.sink) (g.O.Sink.written c.write_all-2.new.sink)
    (g.O.Sink.written c.write_gates.new.sink) (g.O.Sink.written c.write_outs.new.sink) (g.O.Sink.written c.write_all-3.new.sink)
    c.in_ok-write_all.ensures.whole c.in_ok-write_all-2.ensures.whole c.in_ok-write_gates.ensures.sends
    c.in_ok-write_outs.ensures.sends c.in_ok-write_all-3.ensures.whole
