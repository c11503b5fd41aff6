use Rattle.std.proofs.Common.{◌++◌, take, arith, length-append, length-take}
use Rattle.std.proofs.KnownBytes.{Consumes-trans}
use Rattle.mask_text.proofs.source.read_all.Goals as goal

-- The last piece was taken, though there was no memory to keep it.
pub returns-in_err-extend_from_slice-clause-front : goal.returns-in_err-extend_from_slice-clause-front
returns-in_err-extend_from_slice-clause-front g c =
    let gave = c.in_ok-count.ensures.ok in
    let bound = gave.bound in (
      c.loop-piece.text.items ++ take c.in_ok-count.count c.read.new.buf,
      Consumes-trans _ _ _ _ _ c.loop-piece.invariant.taken gave.taken,
      omega (arith, length-append c.loop-piece.text.items (take c.in_ok-count.count c.read.new.buf), length-take c.in_ok-count.count c.read.new.buf),
    )
