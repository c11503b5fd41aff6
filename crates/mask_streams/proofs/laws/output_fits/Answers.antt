use Rattle.mask_streams.proofs.Keystreams.{output_fits}
use Rattle.mask_streams.proofs.laws.output_fits.Goals as goal

pub returns : goal.returns
returns c = output_fits
