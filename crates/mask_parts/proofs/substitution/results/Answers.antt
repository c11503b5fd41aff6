use Rattle.std.proofs.Common.{refl}
use Rattle.mask_parts.specs.PresentSbox.{sbox_results}
use Rattle.mask_parts.proofs.substitution.results.Goals as goal

pub returns : goal.returns
unfolding sbox_results
returns c = refl
