use Rattle.std.proofs.Common.{arith}
use Rattle.mask_self.specs.Generator.{next, top_byte}
use Rattle.mask_self.proofs.generator.Generator.next_byte.Goals as goal

pub returns-clause-byte : goal.returns-clause-byte
unfolding next top_byte
returns-clause-byte c = omega arith

pub returns-clause-after : goal.returns-clause-after
unfolding next
returns-clause-after c = omega arith
