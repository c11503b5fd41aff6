use Rattle.std.proofs.Common.{◌≡◌, ◌++◌, take, drop}
use Rattle.mask_eval.specs.Listing.{filled}
use Rattle.mask_eval.proofs.listing.fill_blanks.Given as goal

abbrev pub invariant-loop-l : goal.invariant-loop-l
invariant-loop-l l = record {
  front : take l.l l.blanks ++ filled l.inputs l.coins l.outputs l.l (drop l.l l.fn.blanks) ≡ filled l.inputs l.coins l.outputs 0 l.fn.blanks;
  back : drop l.l l.blanks ≡ drop l.l l.fn.blanks;
}
