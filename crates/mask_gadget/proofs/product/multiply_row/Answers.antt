use Rattle.std.proofs.Common.{ℕ, ◌<◌, length, map, get_or, bit_and, arith, ◌∙◌, ap}
use Rattle.mask_gadget.proofs.Telling.{none_made, one_made, all_made, word_read}
use Rattle.mask_gadget.proofs.product.multiply_row.Goals as goal

pub loop-j-init : goal.loop-j-init
loop-j-init g c = record { row = none_made g.W.Wiring.carried g.row.N _ c.args.row.now (g.W.Wiring.told c.args.wires.now) c.told-row; room = omega arith }

pub loop-j-preserved : goal.loop-j-preserved
loop-j-preserved g c =
    let W = g.W.Wiring in
    let term : ℕ → ℕ = λ j. bit_and (g.W.Wiring.carried c.args.share) (get_or (map g.W.Wiring.carried c.args.y.now) j 0) in
    let within : c.loop-j.j < length c.args.y.now = omega arith in
    record {
      row = one_made W.carried g.row.N term c.loop-j.j c.and.result c.loop-j.row (W.told c.args.wires.now) (W.told c.loop-j.wires) _ c.loop-j-test.true
          (c.and.ensures.value ∙ ap (bit_and (W.carried c.args.share)) (word_read W.carried c.args.y.now c.loop-j.j _ within))
          c.and.ensures.told c.loop-j.invariant.row;
      room = omega arith;
    }

pub returns-clause-row : goal.returns-clause-row
returns-clause-row g c =
    (all_made g.W.Wiring.carried g.row.N _ c.loop-j.j c.loop-j.row (g.W.Wiring.told c.args.wires.now) (g.W.Wiring.told c.loop-j.wires) (omega arith) c.loop-j.invariant.row).0

pub returns-clause-told : goal.returns-clause-told
returns-clause-told g c =
    (all_made g.W.Wiring.carried g.row.N _ c.loop-j.j c.loop-j.row (g.W.Wiring.told c.args.wires.now) (g.W.Wiring.told c.loop-j.wires) (omega arith) c.loop-j.invariant.row).1
