use Rattle.mask_laws.proofs.Hiding.{accepted_call_is_private}
use Rattle.mask_laws.proofs.privacy.accepted_call_is_private.Goals as goal

pub returns : goal.returns
returns c = accepted_call_is_private
