use Rattle.std.proofs.Common.{ap, ◌∙◌, arith}
use Rattle.mask_check.specs.declared.batches.Batch.{Batch}
use Rattle.mask_check.proofs.Passing.{operands_in}
use Rattle.mask_check.proofs.Batching.{IsBatch-after, batch_after-ends}
use Rattle.mask_check.proofs.batches.next_batch.Goals as goal

pub take_in-requires-clause-on_left : goal.take_in-requires-clause-on_left
take_in-requires-clause-on_left g c =
    operands_in c.args.circuit.now _ c.loop-batch.batch.until _ c.values-values.ensures.circuit (omega (arith, c.values-values.ensures.count))
    c.loop-batch.invariant.0.left_size c.gate_at-gate.ensures

pub take_in-requires-clause-on_right : goal.take_in-requires-clause-on_right
take_in-requires-clause-on_right g c =
    operands_in c.args.circuit.now _ c.loop-batch.batch.until _ c.values-values.ensures.circuit (omega (arith, c.values-values.ensures.count))
    c.loop-batch.invariant.0.right_size c.gate_at-gate.ensures

pub loop-batch-preserved : goal.loop-batch-preserved
loop-batch-preserved g c =
    let ends = batch_after-ends c.gate_at-gate.result c.loop-batch.batch in
    let until = ap (λ (b : Batch). b.until) c.take_in.ensures.batch ∙ ends.0 in
    let from = ap (λ (b : Batch). b.from) c.take_in.ensures.batch ∙ ends.1 in (
      IsBatch-after c.args.circuit.now c.loop-batch.batch _ c.loop-batch.left c.loop-batch.right _ _ c.gate_at-gate.result c.values-values.ensures.circuit
          (omega (arith, c.values-values.ensures.count)) (omega arith) c.gate_at-gate.ensures c.take_in.ensures.batch c.take_in.ensures.left c.take_in.ensures.right
          c.loop-batch.invariant.0,
      from ∙ c.loop-batch.invariant.1,
      omega (arith, until, c.tick.ensures, c.loop-batch.invariant.2),
    )
