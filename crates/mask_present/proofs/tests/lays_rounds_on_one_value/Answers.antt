use Rattle.std.proofs.Common.{ℕ, ◌<◌, arith}
use Rattle.std.proofs.lemmas.List.Elements.{All-replicate}
use Rattle.mask_circuit.specs.Netlist.{value_count}
use Rattle.mask_present.proofs.tests.lays_rounds_on_one_value.Goals as goal

pub present_rounds-requires-clause-key_known : goal.present_rounds-requires-clause-key_known
present_rounds-requires-clause-key_known g c =
    let few = c.if-values-eq1.true in let count = c.values.ensures.count in
    All-replicate (λ (u : ℕ). u < value_count c.in_ok-builder.builder) 80 0 (omega arith)

pub present_rounds-requires-clause-state_known : goal.present_rounds-requires-clause-state_known
present_rounds-requires-clause-state_known g c =
    let few = c.if-values-eq1.true in let count = c.values.ensures.count in
    All-replicate (λ (u : ℕ). u < value_count c.in_ok-builder.builder) 64 0 (omega arith)
