use Rattle.std.proofs.Common.{arith, ◌<◌, sym, subst}
use Rattle.mask_circuit.specs.declared.limits.TheConstants.{MAX_VALUES}
use Rattle.mask_circuit.specs.Netlist.{Netlist, OperandsBelow, value_count}
use Rattle.mask_circuit.proofs.Growing.{IsCircuit-with_gate}
use Rattle.mask_circuit.proofs.builders.Builder.append.Goals as goal

pub invariant_of-self-2 : goal.invariant_of-self-2
invariant_of-self-2 c =
    let below = subst (λ (n : Netlist). OperandsBelow (value_count n) c.args.gate) (sym c.self.view_is) c.requires in
    let room : value_count c.args.self.now < MAX_VALUES = omega (arith, c.values-value.ensures.count) in
    let roomy = subst (λ (n : Netlist). value_count n < MAX_VALUES) (sym c.self.view_is) room in
    rw c.in_ok-push.ensures.items (IsCircuit-with_gate _ c.args.gate c.self.invariant below roomy)
