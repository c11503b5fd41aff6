use Rattle.std.proofs.Common.{refl}
use Rattle.mask_parts.specs.PresentSbox.{sbox_steps}
use Rattle.mask_parts.proofs.substitution.steps.Goals as goal

pub returns : goal.returns
unfolding sbox_steps
returns c = refl
