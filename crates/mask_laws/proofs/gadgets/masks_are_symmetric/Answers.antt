-- A mask depends on the sides by what changes between them.
use Rattle.mask_laws.proofs.Symmetry.{mask_is_symmetric}
use Rattle.mask_laws.proofs.gadgets.masks_are_symmetric.Goals as goal

pub returns : goal.returns
returns c = mask_is_symmetric
