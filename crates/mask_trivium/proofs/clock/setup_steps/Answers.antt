use Rattle.std.proofs.Common.{refl}
use Rattle.mask_trivium.specs.Clocks.{setup_steps}
use Rattle.mask_trivium.proofs.clock.setup_steps.Goals as goal

pub returns : goal.returns
unfolding setup_steps
returns c = refl
