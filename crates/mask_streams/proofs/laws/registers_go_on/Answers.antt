use Rattle.mask_streams.proofs.Values.{registers_go_on}
use Rattle.mask_streams.proofs.laws.registers_go_on.Goals as goal

pub returns : goal.returns
returns c = registers_go_on
