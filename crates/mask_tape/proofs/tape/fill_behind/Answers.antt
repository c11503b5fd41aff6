use Rattle.std.proofs.Common.{arith}
use Rattle.mask_tape.proofs.Stretches.{put_behind}
use Rattle.mask_tape.proofs.tape.fill_behind.Goals as goal

pub returns-clause-ok : goal.returns-clause-ok
returns-clause-ok g c = (c.fill.new.buf, put_behind c.args.bytes.now c.fill.new.buf c.args.last (omega arith), c.in_ok-fill.ensures.ok)
