use Rattle.std.proofs.Common.{◌<◌, [], ◌∷◌, length, map, get_or, bit_xor, arith, ◌∙◌, ap, ap₂, sym}
use Rattle.mask_circuit.specs.declared.gates.Gate.TheVariants.{Xor}
use Rattle.mask_circuit.specs.Ring.{words}
use Rattle.mask_circuit.specs.declared.gates.Wire.TheVariants.{Share}
use Rattle.mask_circuit.specs.Wires.{gate_wire}
use Rattle.mask_shares.specs.Sharing.{all_listed}
use Rattle.mask_shares.proofs.Lists.{map-each}
use Rattle.mask_gadget.specs.Wiring.{told_more}
use Rattle.mask_gadget.proofs.Telling.{none_made, one_made, all_made, word_read}
use Rattle.mask_gadget.proofs.linear.xor.Goals as goal

pub loop-i-init : goal.loop-i-init
loop-i-init g c = record { parts = none_made g.W.Wiring.carried g.row.N _ c.args.out.now (g.W.Wiring.told c.args.wires.now) c.told-out; room = omega arith }

pub loop-i-preserved : goal.loop-i-preserved
loop-i-preserved g c =
    let W = g.W.Wiring in
    let left : c.loop-i.i < length c.args.x.now = omega arith in
    let right : c.loop-i.i < length c.args.y.now = omega arith in
    record {
      parts = one_made W.carried g.row.N (λ k. bit_xor (get_or (map g.W.Wiring.carried c.args.x.now) k 0) (get_or (map g.W.Wiring.carried c.args.y.now) k 0))
          c.loop-i.i c.xor.result c.loop-i.out (W.told c.args.wires.now) (W.told c.loop-i.wires) _ c.loop-i-test.true
          (c.xor.ensures.value
          ∙ ap₂ bit_xor (word_read W.carried c.args.x.now c.loop-i.i _ left) (word_read W.carried c.args.y.now c.loop-i.i _ right))
          c.xor.ensures.told c.loop-i.invariant.parts;
      room = omega arith;
    }

pub returns-clause-shares : goal.returns-clause-shares
returns-clause-shares g c =
    (all_made g.W.Wiring.carried g.row.N _ c.loop-i.i c.loop-i.out (g.W.Wiring.told c.args.wires.now) (g.W.Wiring.told c.loop-i.wires) (omega arith) c.loop-i.invariant.parts).0
    ∙ sym (map-each (gate_wire words g.row.N (Xor 0 1) (all_listed words (map g.W.Wiring.carried c.args.x.now ∷ map g.W.Wiring.carried c.args.y.now ∷ [])) []) Share g.row.N)

pub returns-clause-told : goal.returns-clause-told
returns-clause-told g c =
    let made = all_made g.W.Wiring.carried g.row.N _ c.loop-i.i c.loop-i.out (g.W.Wiring.told c.args.wires.now) (g.W.Wiring.told c.loop-i.wires) (omega arith)
    c.loop-i.invariant.parts in
    made.1 ∙ ap (told_more (g.W.Wiring.told c.args.wires.now)) (sym made.0)
