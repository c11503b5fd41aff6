use Rattle.std.proofs.Common.{ℕ, true, false, arith, length-append}
use Rattle.mask_probe.proofs.OwnProbes.{inner_passed, inner_taken, is_share-none, not_inner_elsewhere, not_inner_share, placed_at, placed_part}
use Rattle.mask_probe.proofs.inner.inner_probes.Goals.{then-probe-value+then-is_none, else-probe-value, else-probe-value-via-then-probe-value+else-is_none, else-probe-value-via-else-probe-value}
use Rattle.mask_probe.proofs.inner.inner_probes.Goals as goal

pub loop-probe-preserved : goal.loop-probe-preserved
loop-probe-preserved g c =
    elim c.if-probe-value.branch [
      | then-probe-value+then-is_none w ↦ rw (w.inner-is, w.push.ensures.items) (record {
        so_far = inner_taken c.args.circuit.now g.row.N c.args.value c.args.placed.now c.loop-probe.probe-index c.loop-probe.inner.items (omega arith)
            w.if-probe-value.true
            (placed_part c.args.circuit.now g.row.N c.args.value c.args.placed.now c.loop-probe.probe-index (omega arith) c.requires.known w.if-probe-value.true)
            (is_share-none c.args.circuit.now g.row.N c.args.value _ _ w.share_of.result w.is_none.result true c.gate_at-gate.ensures w.share_of.ensures.share w.is_none.ensures w.if-is_none.true)
            c.loop-probe.invariant.so_far;
        few = omega (arith, length-append {A = ℕ});
      })
      | else-probe-value w ↦ rw w.inner-is (record {
        so_far = inner_passed c.args.circuit.now g.row.N c.args.value c.args.placed.now c.loop-probe.probe-index c.loop-probe.inner.items (omega arith)
            (elim w.else-probe-value.branch [
              | else-probe-value-via-then-probe-value+else-is_none w' ↦ not_inner_share c.args.circuit.now g.row.N c.args.value (placed_at c.args.placed.now c.loop-probe.probe-index) w'.if-probe-value.true
                  (is_share-none c.args.circuit.now g.row.N c.args.value _ _ w'.share_of.result w'.is_none.result false c.gate_at-gate.ensures w'.share_of.ensures.share w'.is_none.ensures w'.if-is_none.false)
              | else-probe-value-via-else-probe-value w' ↦ not_inner_elsewhere c.args.circuit.now g.row.N c.args.value (placed_at c.args.placed.now c.loop-probe.probe-index) w'.if-probe-value.false
            ])
            c.loop-probe.invariant.so_far;
        few = omega arith;
      })
    ]
