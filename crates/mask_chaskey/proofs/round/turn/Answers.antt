use Rattle.std.proofs.Common.{refl}
use Rattle.mask_chaskey.specs.Rounds.{turned_block}
use Rattle.mask_chaskey.proofs.round.turn.Goals as goal

pub returns : goal.returns
unfolding turned_block
returns c = rw c.rot32.ensures.rotated refl
