-- From the bytes of a text to the words of the lines that count.
use Rattle.std.specs.Prelude.{◌≡◌, ℕ, ◌-◌, ◌<◌, ◌⊎◌, Bool, true, if◌then◌else◌, ◌==◌, List, [], ◌∷◌, length, take, slice_index}
use Rattle.std.specs.List.{slice_split}

-- the pieces between separators, empty ones too
unfoldable pub split_at : ℕ → List ℕ → List (List ℕ)
split_at separator bytes = slice_split (λ b. b == separator) bytes

-- the front, and the bytes behind the separator that ends it; or the front is all there is
pub record IsCut (separator : ℕ) (bytes front after : List ℕ) : Type 0 where
  pub pieces : (split_at separator bytes ≡ front ∷ split_at separator after)
      ⊎ ((split_at separator bytes ≡ front ∷ []) × (front ≡ bytes) × (after ≡ []))
  pub shorter : 0 < length bytes → length after < length bytes

abbrev pub unless_empty : List ℕ → List (List ℕ)
unless_empty [] = []
unless_empty (b ∷ bs) = (b ∷ bs) ∷ []

abbrev pub no_empty_last : List (List ℕ) → List (List ℕ)
no_empty_last [] = []
no_empty_last (line ∷ []) = unless_empty line
no_empty_last (line ∷ (next ∷ lines)) = line ∷ no_empty_last (next ∷ lines)

-- The lines of a text, which end at line feeds. What follows the last line feed is a line only if it isn't empty.
unfoldable pub text_lines : List ℕ → List (List ℕ)
text_lines bytes = no_empty_last (split_at 10 bytes)

-- a line without the one carriage return that may end it
unfoldable pub bare : List ℕ → List ℕ
bare line = if slice_index line (length line - 1) == 13 then take (length line - 1) line else line

-- the pieces that aren't empty
abbrev pub solid : List (List ℕ) → List (List ℕ)
solid [] = []
solid ([] ∷ pieces) = solid pieces
solid ((b ∷ bs) ∷ pieces) = (b ∷ bs) ∷ solid pieces

-- the words between runs of spaces
unfoldable pub words_of : List ℕ → List (List ℕ)
words_of bytes = solid (split_at 32 bytes)

-- the words of a line
abbrev pub words : List ℕ → List (List ℕ)
words line = words_of (bare line)

-- a line without words, or one whose first word begins with #, is passed over
abbrev pub is_passed_over : List (List ℕ) → Bool
is_passed_over [] = true
is_passed_over (word ∷ more) = slice_index word 0 == 35

-- the words of each line that isn't passed over
abbrev pub kept : List (List ℕ) → List (List (List ℕ))
kept [] = []
kept (line ∷ lines) = if is_passed_over (words line) then kept lines else words line ∷ kept lines

-- what a text says: the words of each of its lines that isn't passed over
abbrev pub spoken : List ℕ → List (List (List ℕ))
spoken bytes = kept (text_lines bytes)
