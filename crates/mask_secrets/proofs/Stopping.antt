-- From what reading key lines comes to, to how a run ends.
use Rattle.std.proofs.Common.{◌≡◌, ℕ, Ok, Err, Option, List, refl, ap}
use Rattle.mask_keys.specs.declared.files.KeyLength.{KeyLength}
use Rattle.mask_keys.specs.declared.files.KeyError.{KeyError}
use Rattle.mask_keys.specs.declared.files.KeyError.TheVariants as errors
use Rattle.mask_keys.specs.Answers.{Came, Whole, TooMany, Broken, Reads, failed_to_read}
use Rattle.mask_status.specs.declared.status.Status.{Status}
use Rattle.mask_status.specs.Ends.{is_key_fault}
use Rattle.mask_secrets.specs.KeyEnds.{TakesKeys, KeyEnds, Breaks, Long, Bad, Does, StopsKeys, AreLines, IsOfKeys, status_of}

-- what an error of the reader says of the bytes
stopped : (count : ℕ) (asked : KeyLength) (error : KeyError) (bytes : List ℕ) (rest : Option (List ℕ)) →
    Came count asked bytes rest (Err error) → StopsKeys count asked bytes rest (status_of error)
stopped count asked error bytes rest (Whole end within bad) = Bad error end within bad refl
stopped count asked error bytes rest (TooMany is many) = let long : error ≡ errors.Long = cc in Long (ap status_of long) many
stopped count asked error bytes rest (Broken is few) = let failed : error ≡ errors.KeyFault = cc in Breaks (ap status_of failed) few

pub Reads-stopped : (count : ℕ) (asked : KeyLength) (error : KeyError) (before now : Option (List ℕ)) → Reads count asked before now (Err error) →
    TakesKeys before now (λ bytes. StopsKeys count asked bytes now (status_of error))
Reads-stopped count asked error before now h = (h.0, h.1, stopped count asked error h.0 now h.2)

-- what lines of the reader say of them
came : (count : ℕ) (asked : KeyLength) (lines : List (List ℕ)) (bytes : List ℕ) (rest : Option (List ℕ)) →
    Came count asked bytes rest (Ok lines) → AreLines count asked bytes rest lines
came count asked lines bytes rest (Whole end within file) = record { at_end = end; within = within; file = file }
came count asked lines bytes rest (TooMany is many) = absurd (cc)
came count asked lines bytes rest (Broken is few) = absurd (cc)

pub Reads-lines : (count : ℕ) (asked : KeyLength) (lines : List (List ℕ)) (before now : Option (List ℕ)) → Reads count asked before now (Ok lines) →
    TakesKeys before now (λ bytes. AreLines count asked bytes now lines)
Reads-lines count asked lines before now h = (h.0, h.1, came count asked lines h.0 now h.2)

pub IsOfKeys-read : (error : KeyError) → IsOfKeys (status_of error)
IsOfKeys-read errors.KeyFault = tt
IsOfKeys-read errors.Long = tt
IsOfKeys-read (errors.Line line) = tt
IsOfKeys-read (errors.Count found) = tt

-- the status tells that reading failed exactly where the error does
pub fault-read : (error : KeyError) → failed_to_read (Err error) ≡ is_key_fault (status_of error)
fault-read errors.KeyFault = refl
fault-read errors.Long = refl
fault-read (errors.Line line) = refl
fault-read (errors.Count found) = refl

-- an end before there are key lines is one, whatever is done with key lines
pub KeyEnds-stopped : (count : ℕ) (asked : KeyLength) (Did : List (List ℕ) → Status → Type 0) (bytes : List ℕ) (rest : Option (List ℕ)) (status : Status) →
    StopsKeys count asked bytes rest status → KeyEnds count asked Did bytes rest status
KeyEnds-stopped count asked Did bytes rest status (Breaks e few) = Breaks e few
KeyEnds-stopped count asked Did bytes rest status (Long e many) = Long e many
KeyEnds-stopped count asked Did bytes rest status (Bad error end within bad e) = Bad error end within bad e
KeyEnds-stopped count asked Did bytes rest status (Does lines end within file did) = absurd did
