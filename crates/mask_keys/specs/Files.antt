-- Which bytes are a key file of which lines, and what is wrong with the others. The format is this project's own.
use Rattle.std.specs.Prelude.{◌≡◌, ℕ, suc, ◌/◌, ◌≤◌, Bool, not, ◌&&◌, ◌==◌, nat_le, if◌then◌else◌, Result, Ok, Option, Some, None, List, [], ◌∷◌, ◌++◌, map, length}
use Rattle.std.specs.Result.{is_ok}
use Rattle.std.specs.List.{flat_map, position}
use Rattle.hex.specs.Hex.{decode_sized, encode_lower}
use Rattle.hex.specs.declared.error.FromHexError.{FromHexError}
use Rattle.mask_text.specs.Lines.{text_lines, bare}
use Rattle.mask_keys.specs.declared.files.KeyLength.{KeyLength}
use Rattle.mask_keys.specs.declared.files.KeyLength.TheVariants.{Exactly, Any}
use Rattle.mask_keys.specs.declared.files.KeyError.{KeyError}
use Rattle.mask_keys.specs.declared.files.KeyError.TheVariants.{Line, Count}
use Rattle.mask_keys.specs.Lines.{AreKeyLines, line_length}

-- the n bytes that a line spells: two hexadecimal digits of either case for each, and nothing else
abbrev pub spelled : ℕ → List ℕ → Result (List ℕ) FromHexError
spelled n line = decode_sized (bare line) n

-- a length is the asked one
abbrev pub IsAsked : KeyLength → ℕ → Type 0
IsAsked (Exactly n) length = length ≡ n
IsAsked Any length = Unit {0}

-- a length that can be asked
abbrev pub IsLength : KeyLength → Type 0
IsLength (Exactly n) = (1 ≤ n) × (n ≤ 64)
IsLength Any = Unit {0}

-- The bytes are a key file of just these lines, each spelled on a line of its own.
pub record IsKeyFile (count : ℕ) (asked : KeyLength) (bytes : List ℕ) (lines : List (List ℕ)) : Type 0 where
  pub shape : AreKeyLines lines
  pub spells : map (spelled (line_length lines)) (text_lines bytes) ≡ map Ok lines
  pub long : IsAsked asked (line_length lines)
  pub many : length lines ≡ count

-- How many bytes each line of a key file has to spell: the length that is asked, or, where any will do, half as many bytes as
-- line 1 has digits. Of no line it is 0.
abbrev pub wanted : KeyLength → List (List ℕ) → ℕ
wanted (Exactly n) lines = n
wanted Any [] = 0
wanted Any (line ∷ lines) = length (bare line) / 2

-- whether a line spells n bytes, which are 1 to 64
abbrev pub is_in_form : ℕ → List ℕ → Bool
is_in_form n line = nat_le 1 n && nat_le n 64 && is_ok (spelled n line)

-- the place, from 0, of the first line that isn't in form
abbrev pub first_bad : KeyLength → List (List ℕ) → Option ℕ
first_bad asked lines = position (λ (line : List ℕ). not (is_in_form (wanted asked lines) line)) lines

-- the first line out of form, from 1, or else that there are more or fewer lines than asked
abbrev pub fault_of : ℕ → ℕ → Option ℕ → Option KeyError
fault_of count found (Some place) = Some (Line (suc place))
fault_of count found None = if found == count then None else Some (Count found)

-- the first fault of a key file of at most 4,096 bytes
unfoldable pub fault : ℕ → KeyLength → List ℕ → Option KeyError
fault count asked bytes = fault_of count (length (text_lines bytes)) (first_bad asked (text_lines bytes))

-- a key line as text: lower case, and a line feed
abbrev pub line_text : List ℕ → List ℕ
line_text line = encode_lower line ++ 10 ∷ []

-- the key file that is written of lines
unfoldable pub key_file : List (List ℕ) → List ℕ
key_file lines = flat_map line_text lines
