use Rattle.std.proofs.Common.{◌≡◌, refl}
use Rattle.mask_io.proofs.opened.OpenSourceSource.read.Goals as goal

pub returns-in-File-clause-file : goal.returns-in-File-clause-file
returns-in-File-clause-file g c s is =
    let same : c.in-File.source ≡ s = cc in
    (c.read.new.self, refl, rw same at c.read.ensures.passes)
