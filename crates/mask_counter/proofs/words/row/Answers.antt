use Rattle.std.proofs.Common.{◌∙◌, arith}
use Rattle.mask_modes.specs.Steps.{block_at}
use Rattle.mask_counter.specs.Blocks.{ordered}
use Rattle.mask_counter.proofs.Turned.{length-ordered, row_step, row_done}
use Rattle.mask_counter.proofs.words.row.Goals as goal

pub overflow_mul-number : goal.overflow_mul-number
overflow_mul-number c =
    let long = length-ordered c.args.order c.args.block c.args.bytes.now c.args.l in
    let next = row_step (ordered c.args.order (block_at c.args.block c.args.bytes.now c.args.l)) c.args.first c.loop-k.k c.loop-k.number c.ordered_byte-byte.result
    (omega arith) (omega arith) c.loop-k.invariant c.ordered_byte-byte.ensures (omega arith) in
    let fits = next.1 in omega arith

pub overflow_add-number : goal.overflow_add-number
overflow_add-number c =
    let long = length-ordered c.args.order c.args.block c.args.bytes.now c.args.l in
    let next = row_step (ordered c.args.order (block_at c.args.block c.args.bytes.now c.args.l)) c.args.first c.loop-k.k c.loop-k.number c.from.result
    (omega arith) (omega arith) c.loop-k.invariant (c.from.ensures ∙ c.ordered_byte-byte.ensures) (omega arith) in
    let fits = next.1 in omega arith

pub loop-k-preserved : goal.loop-k-preserved
loop-k-preserved c =
    let long = length-ordered c.args.order c.args.block c.args.bytes.now c.args.l in
    (row_step (ordered c.args.order (block_at c.args.block c.args.bytes.now c.args.l)) c.args.first c.loop-k.k c.loop-k.number c.from.result
    (omega arith) (omega arith) c.loop-k.invariant (c.from.ensures ∙ c.ordered_byte-byte.ensures) (omega arith)).0

pub returns : goal.returns
returns c = row_done (ordered c.args.order (block_at c.args.block c.args.bytes.now c.args.l)) c.args.first c.loop-k.k c.loop-k.number (omega arith) c.loop-k.invariant
