use Rattle.mask_ciphers.proofs.Drawing.{runs_draw_totals}
use Rattle.mask_ciphers.proofs.laws.runs_draw_totals.Goals as goal

pub returns : goal.returns
returns c = runs_draw_totals
