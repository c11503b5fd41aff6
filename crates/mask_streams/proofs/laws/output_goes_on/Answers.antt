use Rattle.mask_streams.proofs.HandedOut.{output_goes_on}
use Rattle.mask_streams.proofs.laws.output_goes_on.Goals as goal

pub returns : goal.returns
returns c = output_goes_on
