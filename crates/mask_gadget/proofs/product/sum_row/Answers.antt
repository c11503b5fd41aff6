use Rattle.std.proofs.Common.{◌≡◌, ℕ, ◌<◌, length, map, get_or, bit_xor, arith, ◌∙◌, ap, add-one}
use Rattle.mask_circuit.specs.Ring.{words}
use Rattle.mask_circuit.specs.Wires.{other, row_sum}
use Rattle.mask_gadget.proofs.Products.{partner_more}
use Rattle.mask_laws.proofs.Names.{other-below}
use Rattle.mask_gadget.proofs.Rows.{partial-end}
use Rattle.mask_gadget.proofs.Telling.{told_more-none, told_each, word_read}
use Rattle.mask_gadget.proofs.product.sum_row.Goals as goal

pub loop-m-init : goal.loop-m-init
loop-m-init g c = record {
  sum = word_read g.W.Wiring.carried c.args.row.now c.args.i c.index-row-i.result (omega arith);
  told = told_more-none (g.W.Wiring.told c.args.wires.now);
  room = omega arith;
}

pub loop-m-preserved : goal.loop-m-preserved
loop-m-preserved g c =
    let W = g.W.Wiring in
    let first : ℕ = get_or (map g.W.Wiring.carried c.args.row.now) c.args.i 0 in
    let term : ℕ → ℕ = λ k. get_or (map g.W.Wiring.carried c.args.row.now) k 0 in
    let below = other-below g.row.N c.args.i c.loop-m.m c.requires.row (omega arith) in
    let within : c.other.result < length c.args.row.now = omega arith in
    let sum : W.carried c.xor-sum.result ≡ row_sum words first term c.args.i (other c.args.i c.loop-m.m) =
    partner_more first term c.args.i c.loop-m.m (W.carried c.loop-m.sum) (W.carried c.xor-sum.result) c.loop-m.invariant.sum
    (c.xor-sum.ensures.value
    ∙ ap (bit_xor (W.carried c.loop-m.sum)) (word_read W.carried c.args.row.now c.other.result c.index-row-other.result within ∙ ap term c.other.ensures.partner)) in
    record {
      sum = rw (add-one c.loop-m.m) sum;
      told = told_each (W.told c.args.wires.now) (W.told c.loop-m.wires) _ (λ m. row_sum words first term c.args.i (other c.args.i m)) c.loop-m.m
          (W.carried c.xor-sum.result) c.loop-m.invariant.told c.xor-sum.ensures.told sum;
      room = omega arith;
    }

pub returns-clause-sum : goal.returns-clause-sum
returns-clause-sum g c =
    let first : ℕ = get_or (map g.W.Wiring.carried c.args.row.now) c.args.i 0 in
    let term : ℕ → ℕ = λ k. get_or (map g.W.Wiring.carried c.args.row.now) k 0 in
    c.loop-m.invariant.sum ∙ partial-end words first term g.row.N c.args.i c.loop-m.m c.requires.some c.requires.row (omega arith)
