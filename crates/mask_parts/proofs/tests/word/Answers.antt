use Rattle.std.proofs.Common.{◌<◌, lit<, refl}
use Rattle.std.proofs.lemmas.List.Elements.{All-replicate}
use Rattle.mask_parts.proofs.tests.word.Goals as goal

pub loop-i-init : goal.loop-i-init
loop-i-init c = (refl, All-replicate (λ u. u < 64) 32 0 (lit< tt))
