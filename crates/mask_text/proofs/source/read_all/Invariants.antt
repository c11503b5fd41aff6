use Rattle.std.proofs.Common.{◌≡◌, ◌+◌, ◌-◌, ◌≤◌, length}
use Rattle.std.specs.Io.KnownBytes.{Consumes}
use Rattle.mask_text.specs.declared.read.TheConstants.{MAX_TEXT}
use Rattle.mask_text.specs.declared.source.TheConstants.{PIECE}
use Rattle.mask_text.proofs.source.read_all.Given as goal

-- The text so far is what was taken.
abbrev pub invariant-loop-piece : goal.invariant-loop-piece
invariant-loop-piece g l = record {
  taken : Consumes (g.S.Source.left l.initial.source) (g.S.Source.left l.source) l.text.items;
  few : length l.text.items ≤ MAX_TEXT + PIECE;
  steady : g.S.Source.faults l.source ≡ g.S.Source.faults l.initial.source;
}

abbrev pub decreases-loop-piece : goal.decreases-loop-piece
decreases-loop-piece g l = MAX_TEXT + 1 - length l.text.items
