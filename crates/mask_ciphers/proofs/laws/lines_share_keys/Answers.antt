use Rattle.mask_ciphers.proofs.Joining.{lines_share_keys}
use Rattle.mask_ciphers.proofs.laws.lines_share_keys.Goals as goal

pub returns : goal.returns
returns c = lines_share_keys
