-- What the answer of `read_keys` says of its source.
use Rattle.std.specs.Prelude.{◌≡◌, ◌⊎◌, ℕ, ◌<◌, ◌≤◌, Bool, true, false, Result, Ok, Err, Option, Some, List, length}
use Rattle.std.specs.Io.KnownBytes.{Consumes, IsAtEnd}
use Rattle.mask_keys.specs.declared.files.KeyLength.{KeyLength}
use Rattle.mask_keys.specs.declared.files.KeyError.{KeyError}
use Rattle.mask_keys.specs.declared.files.KeyError.TheVariants.{KeyFault, Long}
use Rattle.mask_keys.specs.Files.{IsKeyFile, fault}

-- the lines for which the bytes stand, or their first fault
abbrev pub Answers : ℕ → KeyLength → List ℕ → Result (List (List ℕ)) KeyError → Type 0
Answers count asked bytes (Ok lines) = IsKeyFile count asked bytes lines
Answers count asked bytes (Err error) = fault count asked bytes ≡ Some error

-- These bytes came, and the source has `rest` left.
pub data Came (count : ℕ) (asked : KeyLength) (bytes : List ℕ) (rest : Option (List ℕ)) (result : Result (List (List ℕ)) KeyError) : Type 0 where
  -- they are all, and not too many
  Whole : IsAtEnd rest → length bytes ≤ 4096 → Answers count asked bytes result → Came count asked bytes rest result
  -- they are too many, and no more were taken
  TooMany : result ≡ Err Long → length bytes ≡ 4097 → Came count asked bytes rest result
  -- a read failed behind them
  Broken : result ≡ Err KeyFault → length bytes ≤ 4096 → Came count asked bytes rest result

-- These bytes were taken from the source, and they explain the answer.
abbrev pub Reads : ℕ → KeyLength → Option (List ℕ) → Option (List ℕ) → Result (List (List ℕ)) KeyError → Type 0
Reads count asked before now result = (bytes : List ℕ) × Consumes before now bytes × Came count asked bytes now result

-- the answer is that a read failed
abbrev pub failed_to_read : Result (List (List ℕ)) KeyError → Bool
failed_to_read (Err KeyFault) = true
failed_to_read answer = false

-- the answer is this one, unless a read failed
abbrev pub IsUnlessFailed : Result (List (List ℕ)) KeyError → Result (List (List ℕ)) KeyError → Type 0
IsUnlessFailed result answer = (result ≡ answer) ⊎ (result ≡ Err KeyFault)

-- Which answer comes where these bytes are left.
pub record IsAnswerTo (count : ℕ) (asked : KeyLength) (bytes : List ℕ) (result : Result (List (List ℕ)) KeyError) : Type 0 where
  pub file : (lines : List (List ℕ)) → IsKeyFile count asked bytes lines → length bytes ≤ 4096 → IsUnlessFailed result (Ok lines)
  pub bad : (error : KeyError) → fault count asked bytes ≡ Some error → length bytes ≤ 4096 → IsUnlessFailed result (Err error)
  pub long : 4096 < length bytes → IsUnlessFailed result (Err Long)
