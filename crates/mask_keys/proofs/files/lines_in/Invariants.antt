use Rattle.std.proofs.Common.{length}
use Rattle.mask_keys.proofs.Finding.{Found}
use Rattle.mask_keys.proofs.files.lines_in.Given as goal

abbrev pub invariant-loop-line : goal.invariant-loop-line
invariant-loop-line l = Found l.size l.file l.rest l.found l.bytes.items

abbrev pub decreases-loop-line : goal.decreases-loop-line
decreases-loop-line l = length l.rest
