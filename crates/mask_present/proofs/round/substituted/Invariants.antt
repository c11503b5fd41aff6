use Rattle.mask_present.proofs.Blocks.{HasSubstituted}
use Rattle.mask_present.proofs.round.substituted.Given as goal

abbrev pub invariant-loop-g : goal.invariant-loop-g
invariant-loop-g l = HasSubstituted l.fn.b l.b l.block l.result l.g
