use Rattle.mask_modes.proofs.Splitting.{messages_split}
use Rattle.mask_modes.proofs.counter.messages_split.Goals as goal

pub returns : goal.returns
returns c = messages_split
