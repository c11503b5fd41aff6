use Rattle.std.proofs.Common.{refl}
use Rattle.mask_circuit.specs.declared.gates.Gate.TheVariants.{Not}
use Rattle.mask_parts.proofs.Growing.{with_gates-nil}
use Rattle.mask_parts.proofs.Laying.{IsWithinLimits-circuit, Lays-from_gate}
use Rattle.mask_present.specs.Rounds.{not_gates}
use Rattle.mask_present.proofs.schedule.not_if.Goals as goal

pub returns-then-flag : goal.returns-then-flag
unfolding not_gates
returns-then-flag c =
    rw c.if-flag.true
    (Lays-from_gate c.args.b.now (Not c.args.u) _ _ (IsWithinLimits-circuit c.args.b.now c.values-values.ensures.circuit) c.not.ensures.made c.not.ensures.full c.not.ensures.same)

pub returns-else-flag : goal.returns-else-flag
unfolding not_gates
returns-else-flag c =
    rw (c.if-flag.false, with_gates-nil c.args.b.now) (refl, refl, IsWithinLimits-circuit c.args.b.now c.values-values.ensures.circuit)
