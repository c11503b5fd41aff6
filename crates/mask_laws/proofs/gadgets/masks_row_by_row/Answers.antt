use Rattle.mask_laws.proofs.Rows.{masks_at_once}
use Rattle.mask_laws.proofs.gadgets.masks_row_by_row.Goals as goal

pub returns : goal.returns
returns c = masks_at_once
