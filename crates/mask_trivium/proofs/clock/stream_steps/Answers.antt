use Rattle.std.proofs.Common.{refl}
use Rattle.mask_trivium.specs.Clocks.{stream_steps}
use Rattle.mask_trivium.proofs.clock.stream_steps.Goals as goal

pub returns : goal.returns
unfolding stream_steps
returns c = refl
