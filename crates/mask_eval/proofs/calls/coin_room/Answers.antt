use Rattle.std.proofs.Common.{◌≡◌, ℕ, ◌+◌, ◌*◌, ◌≤◌, ap, arith}
use Rattle.std.proofs.Math.Nat.{mul-le-mul_right}
use Rattle.mask_circuit.specs.Netlist.{Netlist, product_count, refresh_count}
use Rattle.mask_eval.proofs.Counts.{few_draw, few_coins}
use Rattle.mask_eval.proofs.calls.coin_room.Goals as goal

pub new-requires-clause-bound : goal.new-requires-clause-bound
new-requires-clause-bound c =
    let circuit = c.circuit-circuit.result.now in
    let inputs = ap (λ (n : Netlist). n.inputs) c.circuit-circuit.ensures.same in
    let few = c.values-values.ensures.circuit.few_values in
    let kinds = few_draw circuit.gates in
    let bound = few_coins c.args.order c.args.plain (product_count circuit + refresh_count circuit) c.requires.few (omega arith) (omega arith) in
    let bits : ℕ = c.args.order * c.args.plain + c.draws.result in
    let lanes : c.args.lanes * bits ≤ 64 * bits = mul-le-mul_right bits c.requires.few_lanes in
    let small : bits ≤ 35000000 = omega arith in
    let from : c.from.result * c.args.plain ≡ c.args.order * c.args.plain = ap (λ (n : ℕ). n * c.args.plain) c.from.ensures in
    let all : c.args.lanes * (c.from.result * c.args.plain + c.draws.result) ≡ c.args.lanes * bits = ap (λ (n : ℕ). c.args.lanes * (n + c.draws.result)) from in
    omega arith
