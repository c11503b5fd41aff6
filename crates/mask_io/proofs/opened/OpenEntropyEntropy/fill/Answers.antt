use Rattle.std.proofs.Common.{◌≡◌, refl}
use Rattle.mask_io.proofs.opened.OpenEntropyEntropy.fill.Goals as goal

pub returns-in-File-clause-file : goal.returns-in-File-clause-file
returns-in-File-clause-file g c s is =
    let same : c.in-File.entropy ≡ s = cc in
    (c.fill-in-File.new.self, refl, rw same at c.fill-in-File.ensures.passes)
