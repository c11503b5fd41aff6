use Rattle.std.proofs.Common.{◌+◌, ◌≤◌, subst, sym, ◌∙◌, arith}
use Rattle.mask_circuit.specs.Netlist.{Netlist}
use Rattle.mask_circuit.specs.Acceptance.{IsStrong}
use Rattle.mask_check.specs.Costs.{most_steps}
use Rattle.mask_parts.proofs.Concluding.{IfOk-same}
use Rattle.mask_refresh.proofs.Making.{below-inputs, strong-refreshing, fenced-inputs, IsCipherCircuit-refreshing}
use Rattle.mask_refresh.proofs.refresh_circuit.Goals as goal

pub fence_outputs-requires : goal.fence_outputs-requires
fence_outputs-requires g c =
    rw (c.in-Ok.ensures.made (omega (arith, c.requires)), c.deref.ensures.value ∙ c.in_ok-inputs.ensures) (below-inputs c.args.bits)

pub strong_circuit-requires : goal.strong_circuit-requires
strong_circuit-requires g c =
    subst IsStrong (sym (c.finish-circuit.ensures ∙ c.in-Ok-fence_outputs.ensures.laid.1
    ∙ fenced-inputs c.args.bits c.in-Ok.builder c.deref.result.now (c.in-Ok.ensures.made (omega (arith, c.requires))) (c.deref.ensures.value ∙ c.in_ok-inputs.ensures)))
    (strong-refreshing c.args.bits)

pub returns-in-Ok-fence_outputs-clause-named : goal.returns-in-Ok-fence_outputs-clause-named
returns-in-Ok-fence_outputs-clause-named g c =
    let made = c.finish-circuit.ensures ∙ c.in-Ok-fence_outputs.ensures.laid.1
    ∙ fenced-inputs c.args.bits c.in-Ok.builder c.deref.result.now (c.in-Ok.ensures.made (omega (arith, c.requires))) (c.deref.ensures.value ∙ c.in_ok-inputs.ensures) in
    IfOk-same c.finish-circuit.result _ c.strong_circuit.result c.strong_circuit.ensures.same
    (IsCipherCircuit-refreshing c.args.bits c.finish-circuit.result made c.values-values.ensures.circuit)

pub returns-in-Ok-fence_outputs-clause-steps : goal.returns-in-Ok-fence_outputs-clause-steps
returns-in-Ok-fence_outputs-clause-steps g c =
    let made = c.finish-circuit.ensures ∙ c.in-Ok-fence_outputs.ensures.laid.1
    ∙ fenced-inputs c.args.bits c.in-Ok.builder c.deref.result.now (c.in-Ok.ensures.made (omega (arith, c.requires))) (c.deref.ensures.value ∙ c.in_ok-inputs.ensures) in
    subst (λ (d : Netlist). c.strong_circuit.new.steps ≤ c.args.steps.now + most_steps d) made c.strong_circuit.ensures.steps
