-- What a machine that computes on share words is told.
use Rattle.std.specs.Prelude.{◌≡◌, ℕ, ◌<◌, List, ◌++◌, length, slice_index_or, map, [], Option, Some, None}

-- these too, where it tells what it was told
abbrev pub told_more : {A : Type 0} → Option (List A) → List A → Option (List A)
told_more None more = None
told_more (Some told) more = Some (told ++ more)

-- what the word in row i and column j carries
abbrev pub cell : {A : Type 0} → (A → ℕ) → List (List A) → ℕ → ℕ → ℕ
cell carried rows i j = slice_index_or (map carried (slice_index_or rows i [])) j 0

-- n rows of n words
pub record IsSquare {A : Type 0} (n : ℕ) (rows : List (List A)) : Type 0 where
  pub count : length rows ≡ n
  pub columns : (i : ℕ) → i < n → length (slice_index_or rows i []) ≡ n
