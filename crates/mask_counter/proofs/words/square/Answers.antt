use Rattle.std.proofs.Common.{◌*◌, arith}
use Rattle.mask_modes.specs.Steps.{block_at}
use Rattle.mask_counter.specs.Blocks.{ordered}
use Rattle.mask_counter.proofs.Turned.{length-ordered, row_bits, turned}
use Rattle.mask_counter.proofs.words.square.Goals as goal

pub returns-clause-lanes : goal.returns-clause-lanes
returns-clause-lanes c = λ l lt.
    let xs = ordered c.args.order (block_at c.args.block c.args.bytes.now l) in
    let long = length-ordered c.args.order c.args.block c.args.bytes.now l in
    turned c.loop-l.rows c.transpose_64.new.rows l _ c.transpose_64.ensures (omega arith) (row_bits xs (8 * c.args.part) (omega arith)) lt
    (c.loop-l.invariant.made l (omega arith))
