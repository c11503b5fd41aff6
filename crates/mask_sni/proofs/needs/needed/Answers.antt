use Rattle.std.proofs.Common.{◌≡◌, arith, sym, ◌∙◌}
use Rattle.mask_circuit.specs.Need.{ShareSet}
use Rattle.mask_sni.specs.Kinds.{needed}
use Rattle.mask_sni.proofs.Members.{member_in, member_out, needed_few}
use Rattle.mask_sni.proofs.needs.needed.Goals.{then-is_needed, else-is_needed}
use Rattle.mask_sni.proofs.needs.needed.Goals as goal

pub loop-i-preserved : goal.loop-i-preserved
loop-i-preserved c =
    let set : ShareSet = needed c.args.operand c.args.wires.now in
    elim c.if-is_needed.branch [
      | then-is_needed w ↦ rw w.shares-is (record {
        items = w.push.ensures.items ∙ rw c.loop-i.invariant.items (sym (member_in set c.loop-i.i (sym c.is_needed.ensures ∙ w.if-is_needed.true)));
        few = omega (arith, w.push.ensures.len);
      })
      | else-is_needed w ↦ rw w.shares-is (record {
        items = c.loop-i.invariant.items ∙ sym (member_out set c.loop-i.i (sym c.is_needed.ensures ∙ w.if-is_needed.false));
        few = omega arith;
      })
    ]

pub returns-clause-count : goal.returns-clause-count
returns-clause-count c =
    let end : c.loop-i.i ≡ c.args.n = omega arith in
    rw c.loop-i.invariant.items (rw end (needed_few c.args.operand c.args.n c.args.wires.now))
