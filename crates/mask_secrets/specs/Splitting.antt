-- What `split` does with a key; its lines are shares of it (Ishai, Sahai and Wagner 2003).
use Rattle.std.specs.Prelude.{◌≡◌, ℕ, ◌≤◌, List, length, slice_index_or, []}
use Rattle.std.specs.declared.option.Option.{Option}
use Rattle.mask_bits.specs.Reading.{low, bytes_for}
use Rattle.mask_io.specs.Outside.{Takes}
use Rattle.mask_keys.specs.Files.{key_file}
use Rattle.mask_keys.specs.Splitting.{split_lines, split_bits}
use Rattle.mask_status.specs.declared.status.Status.{Status}
use Rattle.mask_status.specs.declared.status.Status.TheVariants.{Done, TapeFault, WriteFault, NoMemory}
use Rattle.mask_status.specs.Ends.{Writes}

-- what it shows of tape and output, before and after, and what the tape wants
pub record Sides : Type 0 where
  pub tape_before : Option (List ℕ)
  pub tape_after : Option (List ℕ)
  pub wanted : ℕ
  pub out_before : Option (List ℕ)
  pub out_after : Option (List ℕ)

-- The tape gave just the bits of the shares, rounded up to bytes, and the key file of the d + 1 lines was written, or a part.
pub record WritesLines (d : ℕ) (key : List ℕ) (o : Sides) (status : Status) : Type 0 where
  pub fresh : List ℕ
  pub count : length fresh ≡ bytes_for (split_bits d key)
  pub drawn : Takes o.tape_before o.tape_after fresh
  pub written : Writes (key_file (split_lines d key (low fresh))) o.out_before o.out_after status

-- the tape failed: it wants just these bytes, at least one, and nothing was drawn
pub record FailsToDraw (d : ℕ) (key : List ℕ) (o : Sides) : Type 0 where
  pub wanted : o.wanted ≡ bytes_for (split_bits d key)
  pub some : 1 ≤ o.wanted
  pub undrawn : o.tape_after ≡ o.tape_before

-- what each status says
abbrev pub Splits : ℕ → List ℕ → Sides → Status → Type 0
Splits d key o Done = WritesLines d key o Done
Splits d key o WriteFault = WritesLines d key o WriteFault
Splits d key o TapeFault = FailsToDraw d key o
Splits d key o NoMemory = o.tape_after ≡ o.tape_before
Splits d key o status = ⊥

-- a status with which nothing was drawn
abbrev pub ComesBeforeDrawing : Status → Type 0
ComesBeforeDrawing Done = ⊥
ComesBeforeDrawing TapeFault = ⊥
ComesBeforeDrawing WriteFault = ⊥
ComesBeforeDrawing status = Unit {0}

-- the key of a file of one line
abbrev pub only_line : List (List ℕ) → List ℕ
only_line lines = slice_index_or lines 0 []

-- what is done with the line of such a file
abbrev pub SplitsLine : ℕ → Sides → List (List ℕ) → Status → Type 0
SplitsLine d o lines status = Splits d (only_line lines) o status
