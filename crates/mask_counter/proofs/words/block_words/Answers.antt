use Rattle.std.proofs.Common.{◌∙◌, length, ap, arith}
use Rattle.mask_bits.specs.Lanes.{lane}
use Rattle.mask_modes.specs.Steps.{block_at}
use Rattle.mask_counter.specs.Blocks.{ordered}
use Rattle.mask_counter.proofs.Turned.{columns_more, columns_all}
use Rattle.mask_counter.proofs.words.block_words.Goals as goal

pub loop-part-preserved : goal.loop-part-preserved
loop-part-preserved c = λ m lt.
    let is = c.copy_from_slice.ensures.after in
    columns_more (ordered c.args.order (block_at c.args.block c.args.bytes.now m)) c.loop-part.words c.copy_from_slice.new.self c.loop-part.part m _
    (omega arith) (ap length is ∙ c.square-columns.ensures.count ∙ (omega arith)) (omega arith) (c.loop-part.invariant m lt)
    (ap (lane m) is ∙ c.square-columns.ensures.lanes m lt)

pub returns : goal.returns
returns c = λ m lt. columns_all c.args.order c.args.block c.args.bytes.now m c.loop-part.words c.loop-part.part (omega arith) (omega arith) (c.loop-part.invariant m lt)
