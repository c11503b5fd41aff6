use Rattle.std.proofs.Common.{ℕ, ◌-◌, ◌^◌, ◌<◌, ◌==◌, cond, [], ◌∷◌, length, map, get_or, bit_xor, refl, arith, ◌∙◌, ap, sym, ne_eqb}
use Rattle.mask_circuit.specs.declared.gates.Gate.TheVariants.{Not}
use Rattle.mask_circuit.specs.Ring.{words}
use Rattle.mask_circuit.specs.declared.gates.Wire.TheVariants.{Share}
use Rattle.mask_circuit.specs.Wires.{gate_wire}
use Rattle.mask_shares.specs.Sharing.{all_listed}
use Rattle.mask_shares.proofs.Lists.{map-each}
use Rattle.mask_gadget.specs.Wiring.{told_more}
use Rattle.mask_gadget.proofs.Telling.{none_made, one_made, all_made, word_read}
use Rattle.mask_gadget.proofs.linear.not.Goals as goal

pub loop-i-init : goal.loop-i-init
loop-i-init g c =
    let W = g.W.Wiring in
    let f : ℕ → ℕ = λ k. cond (k == 0) (bit_xor (get_or (map g.W.Wiring.carried c.args.x.now) k 0) (2 ^ 64 - 1)) (get_or (map g.W.Wiring.carried c.args.x.now) k 0) in
    let within : 0 < length c.args.x.now = omega arith in
    record {
      parts = one_made W.carried g.row.N f 0 c.not.result c.args.out.now (W.told c.args.wires.now) (W.told c.args.wires.now) _ c.requires.some
          (c.not.ensures.value ∙ ap (λ (x : ℕ). bit_xor x (2 ^ 64 - 1)) (word_read W.carried c.args.x.now 0 _ within))
          c.not.ensures.told (none_made W.carried g.row.N f c.args.out.now (W.told c.args.wires.now) c.told-out);
      room = omega arith;
    }

pub loop-i-preserved : goal.loop-i-preserved
loop-i-preserved g c =
    let W = g.W.Wiring in
    let f : ℕ → ℕ = λ k. cond (k == 0) (bit_xor (get_or (map g.W.Wiring.carried c.args.x.now) k 0) (2 ^ 64 - 1)) (get_or (map g.W.Wiring.carried c.args.x.now) k 0) in
    let within : c.loop-i.i < length c.args.x.now = omega arith in
    record {
      parts = one_made W.carried g.row.N f c.loop-i.i c.same.result c.loop-i.out (W.told c.args.wires.now) (W.told c.loop-i.wires) _ c.loop-i-test.true
          (c.same.ensures.value ∙ word_read W.carried c.args.x.now c.loop-i.i _ within ∙ rw (ne_eqb c.loop-i.i 0 (omega arith)) refl)
          c.same.ensures.told c.loop-i.invariant.parts;
      room = omega arith;
    }

pub returns-clause-shares : goal.returns-clause-shares
returns-clause-shares g c =
    (all_made g.W.Wiring.carried g.row.N _ c.loop-i.i c.loop-i.out (g.W.Wiring.told c.args.wires.now) (g.W.Wiring.told c.loop-i.wires) (omega arith) c.loop-i.invariant.parts).0
    ∙ sym (map-each (gate_wire words g.row.N (Not 0) (all_listed words (map g.W.Wiring.carried c.args.x.now ∷ [])) []) Share g.row.N)

pub returns-clause-told : goal.returns-clause-told
returns-clause-told g c =
    let made = all_made g.W.Wiring.carried g.row.N _ c.loop-i.i c.loop-i.out (g.W.Wiring.told c.args.wires.now) (g.W.Wiring.told c.loop-i.wires) (omega arith)
    c.loop-i.invariant.parts in
    made.1 ∙ ap (told_more (g.W.Wiring.told c.args.wires.now)) (sym made.0)
