use Rattle.std.proofs.Common.{ap, ◌∙◌}
use Rattle.mask_bits.specs.Reading.{big_endian}
use Rattle.mask_self.proofs.making.make_iv.Goals as goal

pub returns-clause-iv : goal.returns-clause-iv
returns-clause-iv c = c.big_endian.ensures ∙ ap big_endian c.fill.ensures.bytes
