-- The words for what reading, writing and drawing do to an object of the outside.
use Rattle.std.specs.Prelude.{◌≡◌, ℕ, ◌+◌, ◌-◌, ◌^◌, ◌<◌, ◌≤◌, min, Bool, if◌then◌else◌, List, length, take, drop}
use Rattle.std.specs.declared.option.Option.{Option}
use Rattle.std.specs.Io.KnownBytes.{Appends, Consumes, IsAtEnd}

-- one more, in a count of 64 bits that stays at its last value
abbrev pub counted : ℕ → ℕ
counted count = min (count + 1) (2 ^ 64 - 1)

-- the count of faults after a call that failed or didn't
abbrev pub faults_after : Bool → ℕ → ℕ
faults_after failed faults = if failed then counted faults else faults

-- a count is greater than before, or stands at its last value
abbrev pub Rose : ℕ → ℕ → Type 0
Rose before now = counted before ≤ now

-- a read gave n bytes: they stand at the front of the buffer and were the first ones left
pub record Gives (before now : Option (List ℕ)) (buf filled : List ℕ) (n : ℕ) : Type 0 where
  pub bound : n ≤ length buf
  pub taken : Consumes before now (take n filled)
  pub rest_stays : drop n filled ≡ drop n buf
  pub none_at_end : n ≡ 0 → 0 < length buf → IsAtEnd now

-- a write took n bytes of the piece: its first ones were appended, at least one where there is one
pub record Accepts (before now : Option (List ℕ)) (piece : List ℕ) (n : ℕ) : Type 0 where
  pub bound : n ≤ length piece
  pub appended : Appends before now (take n piece)
  pub progress : 0 < length piece → 0 < n

-- a call failed: the bytes are as before
abbrev pub Stays : Option (List ℕ) → Option (List ℕ) → Type 0
Stays before now = now ≡ before

-- where an entropy tells what is left, that began with these bytes, and they are gone
abbrev pub Takes : Option (List ℕ) → Option (List ℕ) → List ℕ → Type 0
Takes before now bytes = Consumes before now bytes

-- the front is the beginning of the whole, and not all of it
abbrev pub IsProperPrefix : List ℕ → List ℕ → Type 0
IsProperPrefix front whole = (length front < length whole) × (take (length front) whole ≡ front)

-- where a sink tells what was written, that grew by a part of the piece, and not by all of it
abbrev pub AppendsProperPrefix : Option (List ℕ) → Option (List ℕ) → List ℕ → Type 0
AppendsProperPrefix before now piece = (front : List ℕ) × IsProperPrefix front piece × Appends before now front
