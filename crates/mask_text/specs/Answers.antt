-- What the answer of a reader says of its source.
use Rattle.std.specs.Prelude.{◌≡◌, ℕ, ◌+◌, ◌^◌, ◌<◌, ◌≤◌, Bool, true, false, Option, Some, Result, Ok, Err, List, length, ◌⊎◌}
use Rattle.std.specs.Io.KnownBytes.{Consumes, IsAtEnd}
use Rattle.mask_text.specs.declared.errors.TextError.{TextError}
use Rattle.mask_text.specs.declared.errors.TextError.TheVariants.{Bad, TooLong, ReadFault, NoMemory}
use Rattle.mask_circuit.specs.Labels.{LabelledNetlist}
use Rattle.mask_text.specs.Text.{IsText}
use Rattle.mask_text.specs.Faults.{Fault, fault, fault_at}

-- A front of what the source had left was taken: at most the bytes of the longest text and one piece more.
abbrev pub TakesFront : Option (List ℕ) → Option (List ℕ) → Type 0
TakesFront before now = (bytes : List ℕ) × Consumes before now bytes × (length bytes ≤ 2 ^ 25 + 4096)

-- All that the source had left was taken, it isn't too long, and it is as said.
abbrev pub TakesAll : Option (List ℕ) → Option (List ℕ) → (List ℕ → Type 0) → Type 0
TakesAll before now P = (bytes : List ℕ) × Consumes before now bytes × IsAtEnd now × (length bytes ≤ 2 ^ 25) × P bytes

-- More bytes came than the longest text has.
abbrev pub TakesTooMany : Option (List ℕ) → Option (List ℕ) → Type 0
TakesTooMany before now = (bytes : List ℕ) × Consumes before now bytes × (2 ^ 25 < length bytes)

-- what each error says of the bytes before and now
abbrev pub Explains : TextError → Option (List ℕ) → Option (List ℕ) → Type 0
Explains (Bad line reason) before now = TakesAll before now (λ bytes. fault bytes ≡ Some (fault_at line reason))
Explains (TooLong limit) before now = (limit ≡ 2 ^ 25) × TakesTooMany before now
Explains ReadFault before now = Unit {0}
Explains NoMemory before now = Unit {0}

-- the same of any answer, where Ok says P of its value and of the text
abbrev pub Answers : {A : Type 0} → (A → List ℕ → Type 0) → Result A TextError → Option (List ℕ) → Option (List ℕ) → Type 0
Answers P (Ok value) before now = TakesAll before now (P value)
Answers P (Err error) before now = Explains error before now

-- the answer is that a read failed
abbrev pub failed_to_read : {A : Type 0} → Result A TextError → Bool
failed_to_read (Err ReadFault) = true
failed_to_read answer = false

-- the answer is this one, unless a read failed or memory ran out
abbrev pub IsUnlessFailed : {A : Type 0} → Result A TextError → Result A TextError → Type 0
IsUnlessFailed result answer = (result ≡ answer) ⊎ ((result ≡ Err ReadFault) ⊎ (result ≡ Err NoMemory))

-- Which answer comes where these bytes are left, seen by what is kept of a labelled circuit.
pub record IsAnswerTo {A : Type 0} (view : LabelledNetlist → A) (bytes : List ℕ) (result : Result A TextError) : Type 0 where
  pub text : (l : LabelledNetlist) → IsText bytes l → length bytes ≤ 2 ^ 25 → IsUnlessFailed result (Ok (view l))
  pub bad : (first : Fault) → fault bytes ≡ Some first → length bytes ≤ 2 ^ 25 → IsUnlessFailed result (Err (Bad first.line first.reason))
  pub long : 2 ^ 25 < length bytes → IsUnlessFailed result (Err (TooLong (2 ^ 25)))
