-- How a run that reads a key file first ends, by the bytes that it took from it.
use Rattle.std.specs.Prelude.{◌≡◌, ◌⊎◌, ℕ, ◌<◌, ◌≤◌, List, length, Some}
use Rattle.std.specs.declared.option.Option.{Option}
use Rattle.std.specs.Io.KnownBytes.{Consumes, IsAtEnd}
use Rattle.mask_keys.specs.declared.files.KeyLength.{KeyLength}
use Rattle.mask_keys.specs.declared.files.KeyError.{KeyError}
use Rattle.mask_keys.specs.declared.files.KeyError.TheVariants as errors
use Rattle.mask_keys.specs.Files.{IsKeyFile, fault}
use Rattle.mask_status.specs.declared.status.KeyReason.TheVariants as reasons
use Rattle.mask_status.specs.declared.status.Status.{Status}
use Rattle.mask_status.specs.declared.status.Status.TheVariants.{BadKeys, KeyFault}

-- the status of an error of the reader of key files
abbrev pub status_of : KeyError → Status
status_of errors.KeyFault = KeyFault
status_of errors.Long = BadKeys reasons.Long
status_of (errors.Line line) = BadKeys (reasons.Line line)
status_of (errors.Count found) = BadKeys (reasons.Count found)

-- The run took these bytes of the key file, rest is what it left of it, and Did says what it did with the key lines.
pub data KeyEnds (count : ℕ) (asked : KeyLength) (Did : List (List ℕ) → Status → Type 0) (bytes : List ℕ) (rest : Option (List ℕ)) (status : Status) : Type 0 where
  -- reading failed behind them
  Breaks : status ≡ KeyFault → length bytes ≤ 4096 → KeyEnds count asked Did bytes rest status
  -- they are too many, and no more were taken
  Long : status ≡ BadKeys reasons.Long → length bytes ≡ 4097 → KeyEnds count asked Did bytes rest status
  -- they are all, and have this first fault
  Bad : (error : KeyError) → IsAtEnd rest → length bytes ≤ 4096 → fault count asked bytes ≡ Some error → status ≡ status_of error →
      KeyEnds count asked Did bytes rest status
  -- they are all, and are these lines
  Does : (lines : List (List ℕ)) → IsAtEnd rest → length bytes ≤ 4096 → IsKeyFile count asked bytes lines → Did lines status →
      KeyEnds count asked Did bytes rest status

-- the end of a run that did nothing yet
abbrev pub StopsKeys : ℕ → KeyLength → List ℕ → Option (List ℕ) → Status → Type 0
StopsKeys count asked bytes rest status = KeyEnds count asked (λ lines s. ⊥) bytes rest status

-- the bytes are all that was left, they aren't too many, and they are these key lines
pub record AreLines (count : ℕ) (asked : KeyLength) (bytes : List ℕ) (rest : Option (List ℕ)) (lines : List (List ℕ)) : Type 0 where
  pub at_end : IsAtEnd rest
  pub within : length bytes ≤ 4096
  pub file : IsKeyFile count asked bytes lines

-- These bytes were taken of the key file, and they are as said.
abbrev pub TakesKeys : Option (List ℕ) → Option (List ℕ) → (List ℕ → Type 0) → Type 0
TakesKeys before now P = (bytes : List ℕ) × Consumes before now bytes × P bytes

-- the status that is due to a key file that is out of form
abbrev pub IsKeysDue : ℕ → KeyLength → List ℕ → Status → Type 0
IsKeysDue count asked bytes status = ((4096 < length bytes) × (status ≡ BadKeys reasons.Long))
    ⊎ ((length bytes ≤ 4096) × (error : KeyError) × (fault count asked bytes ≡ Some error) × (status ≡ status_of error))

-- the bytes are a key file of some lines
abbrev pub IsInForm : ℕ → KeyLength → List ℕ → Type 0
IsInForm count asked bytes = (length bytes ≤ 4096) × (lines : List (List ℕ)) × IsKeyFile count asked bytes lines

-- a status with which a run ends before it has key lines
abbrev pub IsOfKeys : Status → Type 0
IsOfKeys KeyFault = Unit {0}
IsOfKeys (BadKeys reason) = Unit {0}
IsOfKeys status = ⊥
