-- How a run that reads a circuit text ends, by the bytes that it took from the input.
use Rattle.std.specs.Prelude.{◌≡◌, ◌⊎◌, ℕ, ◌+◌, ◌^◌, ◌<◌, ◌≤◌, List, length}
use Rattle.std.specs.declared.option.Option.{Option}
use Rattle.std.specs.Io.KnownBytes.{Consumes, IsAtEnd}
use Rattle.mask_circuit.specs.Netlist.{Netlist}
use Rattle.mask_circuit.specs.Acceptance.{IsClash}
use Rattle.mask_text.specs.Text.{IsTextOf}
use Rattle.mask_text.specs.declared.errors.TextError.{TextError}
use Rattle.mask_text.specs.declared.errors.TextError.TheVariants as errors
use Rattle.mask_status.specs.declared.status.Status.{Status}
use Rattle.mask_status.specs.declared.status.Status.TheVariants.{Done, Refused, BadText, TooLong, ReadFault, TapeFault, WriteFault, NoMemory}
use Rattle.mask_inspect.specs.Checks.{Check, FirstFailure, AllPass}

-- These bytes were taken from the input, and they are as said. Of an input that tells its bytes they are the first ones.
abbrev pub Takes : Option (List ℕ) → Option (List ℕ) → (List ℕ → Type 0) → Type 0
Takes before now P = (bytes : List ℕ) × Consumes before now bytes × P bytes

-- The run took these bytes, rest is what it left of the input, and Did says what it did where no check fails.
pub data Ends (limit : ℕ) (checks : List Check) (Did : Status → Type 0) (bytes : List ℕ) (rest : Option (List ℕ)) (status : Status) : Type 0 where
  -- more bytes came than a text may have
  Long : status ≡ TooLong limit → limit < length bytes → Ends limit checks Did bytes rest status
  -- nothing is left, and a check fails with this status
  Fails : IsAtEnd rest → length bytes ≤ limit → FirstFailure checks bytes status → Ends limit checks Did bytes rest status
  -- nothing is left, and all checks pass
  Does : IsAtEnd rest → length bytes ≤ limit → AllPass checks bytes → Did status → Ends limit checks Did bytes rest status
  -- reading failed, or memory ran out
  Breaks : (status ≡ ReadFault) ⊎ (status ≡ NoMemory) → Ends limit checks Did bytes rest status

-- the end of a run that did nothing yet
abbrev pub Stops : List Check → List ℕ → Option (List ℕ) → Status → Type 0
Stops checks bytes rest status = Ends (2 ^ 25) checks (λ s. ⊥) bytes rest status

-- the bytes are all that was left, they aren't too many, and they stand for the circuit
pub record IsRead (bytes : List ℕ) (rest : Option (List ℕ)) (c : Netlist) : Type 0 where
  pub at_end : IsAtEnd rest
  pub within : length bytes ≤ 2 ^ 25
  pub is_text : IsTextOf bytes c

-- no step was counted, or the bytes were read and stand for a circuit that costs no more than this
abbrev pub CostsAtMost : (Netlist → ℕ) → ℕ → ℕ → List ℕ → Option (List ℕ) → Type 0
CostsAtMost most before now bytes rest = (now ≡ before) ⊎ ((c : Netlist) × IsRead bytes rest c × (now ≤ before + most c))

-- the status of an error of the reader
abbrev pub status_of : TextError → Status
status_of (errors.Bad line reason) = BadText line reason
status_of (errors.TooLong limit) = TooLong limit
status_of errors.ReadFault = ReadFault
status_of errors.NoMemory = NoMemory

-- why a circuit isn't admitted
abbrev pub RefusesCircuit : Netlist → Status → Type 0
RefusesCircuit c (Refused product source) = IsClash c product source
RefusesCircuit c NoMemory = Unit {0}
RefusesCircuit c status = ⊥

-- a status of a run that did nothing yet
abbrev pub IsEarly : Status → Type 0
IsEarly Done = ⊥
IsEarly TapeFault = ⊥
IsEarly WriteFault = ⊥
IsEarly status = Unit {0}
