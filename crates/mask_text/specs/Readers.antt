-- What contracts say of a reader.
use Rattle.std.specs.Prelude.{◌≡◌, ℕ, ◌≤◌, Result, Ok, Err, Option, Some, length}
use Rattle.mask_circuit.specs.Labels.{LabelledNetlist, sizes}
use Rattle.mask_text.specs.declared.section.Section.{Section}
use Rattle.mask_text.specs.declared.section.Section.TheVariants.{Start, Size, Plain, Named, Ended}
use Rattle.mask_text.specs.declared.errors.Reason.{Reason}
use Rattle.mask_text.specs.declared.errors.Stop.{Stop}
use Rattle.mask_text.specs.declared.errors.Stop.TheVariants.{Faulty, NoMemory}
use Rattle.mask_text.specs.declared.errors.TextError.{TextError}
use Rattle.mask_text.specs.declared.errors.TextError.TheVariants as errors
use Rattle.mask_text.specs.declared.reader.Reader.{Reader}
use Rattle.mask_text.specs.Faults.{Draft, at, Fault, fault_at}

-- what a reader's lines so far stand for
abbrev pub labelled_of : Reader → LabelledNetlist
labelled_of r = record { circuit = r.builder; inputs = r.inputs.items; outputs = r.outputs.items }

abbrev pub draft_of : Reader → Draft
draft_of r = at r.section (labelled_of r)

-- where groups are named, no output stands outside of them
abbrev pub IsFilled : Section → ℕ → ℕ → Type 0
IsFilled Start outputs promised = outputs ≤ promised
IsFilled Size outputs promised = Unit {0}
IsFilled Plain outputs promised = Unit {0}
IsFilled Named outputs promised = outputs ≤ promised
IsFilled Ended outputs promised = Unit {0}

-- a reader keeps count of the outputs that its groups stand for
pub record IsReading (r : Reader) : Type 0 where
  pub promised : r.promised ≡ sizes r.outputs.items
  pub filled : IsFilled r.section (length r.builder.outputs) r.promised

-- The reader has taken the line that makes this draft, unless memory ran out.
abbrev pub GivesDraft : Result (Unit {0}) Stop → Reader → Option Draft → Type 0
GivesDraft (Ok done) reader draft = (draft ≡ Some (draft_of reader)) × IsReading reader
GivesDraft (Err (Faulty reason)) reader draft = ⊥
GivesDraft (Err NoMemory) reader draft = Unit {0}

-- The reader has taken a line, or told what is wrong with it, unless memory ran out.
abbrev pub GivesStep : Result (Unit {0}) Stop → Reader → Result Draft Reason → Type 0
GivesStep (Ok done) reader step = (step ≡ Ok (draft_of reader)) × IsReading reader
GivesStep (Err (Faulty reason)) reader step = step ≡ Err reason
GivesStep (Err NoMemory) reader step = Unit {0}

-- the error tells this fault, unless memory ran out
abbrev pub TellsFault : TextError → Option Fault → Type 0
TellsFault (errors.Bad line reason) fault = fault ≡ Some (fault_at line reason)
TellsFault (errors.TooLong limit) fault = ⊥
TellsFault errors.ReadFault fault = ⊥
TellsFault errors.NoMemory fault = Unit {0}

-- what the caller is told where a reader stops at a line
abbrev pub error_at : ℕ → Stop → TextError
error_at line (Faulty reason) = errors.Bad line reason
error_at line NoMemory = errors.NoMemory
