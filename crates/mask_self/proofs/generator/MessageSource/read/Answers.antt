use Rattle.mask_self.proofs.Generating.{gives-next}
use Rattle.mask_self.proofs.generator.MessageSource.read.Goals as goal

pub returns-clause-ok : goal.returns-clause-ok
returns-clause-ok c =
    rw (← c.self.view_is)
    (gives-next c.self.inside.generator c.fill.new.self c.self.inside.left c.min-count.result c.args.buf.now c.fill.new.room c.min-count.ensures c.fill.ensures.bytes c.fill.ensures.after)
