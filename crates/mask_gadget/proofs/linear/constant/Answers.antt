use Rattle.std.proofs.Common.{refl, arith, ◌∙◌, ap, sym, ne_eqb}
use Rattle.mask_circuit.specs.Ring.{words}
use Rattle.mask_circuit.specs.Wires.{on_first}
use Rattle.mask_gadget.specs.Wiring.{told_more}
use Rattle.mask_gadget.proofs.Telling.{none_made, one_made, all_made}
use Rattle.mask_gadget.proofs.linear.constant.Goals as goal

pub loop-i-init : goal.loop-i-init
loop-i-init g c =
    let W = g.W.Wiring in
    record {
      parts = one_made W.carried g.row.N (on_first words c.args.word) 0 c.public.result c.args.out.now (W.told c.args.wires.now) (W.told c.args.wires.now) _
          c.requires.some c.public.ensures.value c.public.ensures.told
          (none_made W.carried g.row.N (on_first words c.args.word) c.args.out.now (W.told c.args.wires.now) c.told-out);
      room = omega arith;
    }

pub loop-i-preserved : goal.loop-i-preserved
loop-i-preserved g c =
    let W = g.W.Wiring in
    record {
      parts = one_made W.carried g.row.N (on_first words c.args.word) c.loop-i.i c.public-in-loop-i.result c.loop-i.out (W.told c.args.wires.now) (W.told c.loop-i.wires) _
          c.loop-i-test.true (c.public-in-loop-i.ensures.value ∙ rw (ne_eqb c.loop-i.i 0 (omega arith)) refl)
          c.public-in-loop-i.ensures.told c.loop-i.invariant.parts;
      room = omega arith;
    }

pub returns-clause-shares : goal.returns-clause-shares
returns-clause-shares g c =
    (all_made g.W.Wiring.carried g.row.N _ c.loop-i.i c.loop-i.out (g.W.Wiring.told c.args.wires.now) (g.W.Wiring.told c.loop-i.wires) (omega arith) c.loop-i.invariant.parts).0

pub returns-clause-told : goal.returns-clause-told
returns-clause-told g c =
    let made = all_made g.W.Wiring.carried g.row.N _ c.loop-i.i c.loop-i.out (g.W.Wiring.told c.args.wires.now) (g.W.Wiring.told c.loop-i.wires) (omega arith)
    c.loop-i.invariant.parts in
    made.1 ∙ ap (told_more (g.W.Wiring.told c.args.wires.now)) (sym made.0)
