use Rattle.std.proofs.Common.{sym, subst, arith}
use Rattle.mask_circuit.specs.Netlist.{value_count}
use Rattle.mask_check.specs.Verdicts.{IsAcceptedBelow}
use Rattle.mask_check.proofs.Counting.{steps_below-batch, steps_below-most, steps_below-search}
use Rattle.mask_check.proofs.Judging.{accepted_below, batch_empty, search_ended}
use Rattle.mask_check.proofs.verdicts.judge.Goals as goal

pub returns-then-batch-eq0-clause-verdict : goal.returns-then-batch-eq0-clause-verdict
returns-then-batch-eq0-clause-verdict g c =
    let batch = c.next_batch-batch.result in
    let earlier = subst (IsAcceptedBelow c.args.circuit.now) (sym c.next_batch-batch.ensures.from) c.loop-from.invariant.3 in
    accepted_below c.args.circuit.now batch.until (search_ended batch.until (value_count c.args.circuit.now) batch.count c.next_batch-batch.ensures.full c.if-batch-eq0.true)
    (batch_empty c.args.circuit.now batch _ _ c.next_batch-batch.ensures.batch c.if-batch-eq0.true earlier)

pub returns-then-batch-eq0-clause-steps : goal.returns-then-batch-eq0-clause-steps
returns-then-batch-eq0-clause-steps g c =
    let batch = c.next_batch-batch.ensures.batch in
    let counted = rw c.next_batch-batch.ensures.from at batch.counted in
    let cost = steps_below-search c.args.circuit.now c.loop-from.from c.next_batch-batch.result.until c.next_batch-batch.result.count counted in
    omega (
      arith,
      cost,
      steps_below-most c.args.circuit.now c.next_batch-batch.result.until batch.until,
      c.loop-from.invariant.5,
      c.next_batch-batch.ensures.steps,
      c.next_batch-batch.ensures.from,
      batch.from,
    )

pub judge_batch-verdict-requires-clause-earlier : goal.judge_batch-verdict-requires-clause-earlier
judge_batch-verdict-requires-clause-earlier g c = subst (IsAcceptedBelow c.args.circuit.now) (sym c.next_batch-batch.ensures.from) c.loop-from.invariant.3

pub returns-in-Refused-clause-steps : goal.returns-in-Refused-clause-steps
returns-in-Refused-clause-steps g c =
    let batch = c.next_batch-batch.ensures.batch in
    let counted = rw c.next_batch-batch.ensures.from at batch.counted in
    let cost = steps_below-batch c.args.circuit.now c.loop-from.from c.next_batch-batch.result.until c.next_batch-batch.result.count counted (omega arith)
    (c.loop-from.invariant.4 (omega (arith, c.values-values.ensures.count))) batch.until in
    omega (
      arith,
      cost,
      steps_below-most c.args.circuit.now c.next_batch-batch.result.until batch.until,
      c.loop-from.invariant.5,
      c.judge_batch-verdict.ensures.steps,
      c.next_batch-batch.ensures.steps,
      c.next_batch-batch.ensures.from,
      batch.from,
    )

pub returns-clause-verdict : goal.returns-clause-verdict
returns-clause-verdict g c = accepted_below c.args.circuit.now c.loop-from.from (omega (arith, c.values-values.ensures.count)) c.loop-from.invariant.3

pub returns-clause-steps : goal.returns-clause-steps
returns-clause-steps g c =
    omega (arith, steps_below-most c.args.circuit.now c.loop-from.from c.loop-from.invariant.0, c.loop-from.invariant.5)
