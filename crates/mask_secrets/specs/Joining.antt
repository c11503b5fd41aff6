-- What `join` writes.
use Rattle.std.specs.Prelude.{List, ℕ}
use Rattle.std.specs.declared.option.Option.{Option}
use Rattle.mask_keys.specs.Files.{line_text}
use Rattle.mask_keys.specs.Lines.{joined}
use Rattle.mask_status.specs.declared.status.Status.{Status}
use Rattle.mask_status.specs.Ends.{Writes}

-- the key that the lines are shares of, as a line, or a part of it
abbrev pub Joins : Option (List ℕ) → Option (List ℕ) → List (List ℕ) → Status → Type 0
Joins before now lines status = Writes (line_text (joined lines)) before now status
