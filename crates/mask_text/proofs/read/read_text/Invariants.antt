use Rattle.std.proofs.Common.{◌≡◌, ◌+◌, ◌≤◌, length}
use Rattle.mask_text.specs.Lines.{text_lines}
use Rattle.mask_text.specs.Faults.{read_from, reading}
use Rattle.mask_text.specs.Readers.{draft_of, IsReading}
use Rattle.mask_text.proofs.read.read_text.Given as goal

-- Reading the rest gives what reading the whole text gives.
abbrev pub invariant-loop-line : goal.invariant-loop-line
invariant-loop-line l = record {
  same : read_from (draft_of l.reader) l.number (text_lines l.rest) ≡ reading l.text;
  reads : IsReading l.reader;
  few : l.number + length l.rest ≤ length l.text + 1;
}

abbrev pub decreases-loop-line : goal.decreases-loop-line
decreases-loop-line l = length l.rest
