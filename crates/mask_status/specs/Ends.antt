-- Whose fault a status is, and what a command that writes one report has written by its status.
use Rattle.std.specs.Prelude.{ℕ, Bool, true, false, List}
use Rattle.std.specs.declared.option.Option.{Option}
use Rattle.std.specs.Io.KnownBytes.{Appends}
use Rattle.mask_io.specs.Outside.{AppendsProperPrefix}
use Rattle.mask_status.specs.declared.status.Status.{Status}
use Rattle.mask_status.specs.declared.status.Status.TheVariants.{Done, ReadFault, KeyFault, TapeFault, WriteFault}

-- a fault of the input, of the key file, of the tape, of the output
abbrev pub is_read_fault : Status → Bool
is_read_fault ReadFault = true
is_read_fault status = false

abbrev pub is_key_fault : Status → Bool
is_key_fault KeyFault = true
is_key_fault status = false

abbrev pub is_tape_fault : Status → Bool
is_tape_fault TapeFault = true
is_tape_fault status = false

abbrev pub is_write_fault : Status → Bool
is_write_fault WriteFault = true
is_write_fault status = false

-- the line was written whole with Done, and a proper prefix of it with a fault of writing
abbrev pub Writes : List ℕ → Option (List ℕ) → Option (List ℕ) → Status → Type 0
Writes line before now Done = Appends before now line
Writes line before now WriteFault = AppendsProperPrefix before now line
Writes line before now status = ⊥

-- a status with which nothing was written
abbrev pub ComesBeforeWriting : Status → Type 0
ComesBeforeWriting Done = ⊥
ComesBeforeWriting WriteFault = ⊥
ComesBeforeWriting status = Unit {0}
