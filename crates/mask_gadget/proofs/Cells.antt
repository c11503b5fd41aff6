-- Rows of words: what a cell carries once a row or a cell is written.
use Rattle.std.proofs.Common.{◌≡◌, ◌≢◌, ℕ, ◌<◌, ◌⊎◌, inl, inr, List, [], length, map, get_or, set, replicate, refl, sym, ap, ◌∙◌, arith}
use Rattle.std.proofs.lemmas.Bool.{cases_lt}
use Rattle.std.proofs.lemmas.List.{get_or-set_same, get_or-set_other, length-set, map-set, length-map, length-replicate, get_or-replicate}
use Rattle.std.proofs.lemmas.Grind.{get_or-set_at}
use Rattle.mask_gadget.specs.Wiring.{cell, IsSquare}

-- the same row n times
pub same_rows : {A : Type 0} (n : ℕ) (row : List A) → length row ≡ n → IsSquare n (replicate n row)
same_rows n row count = record { count = length-replicate n row; columns = λ i lt. ap length (get_or-replicate n i row [] lt) ∙ count }

-- rows of which row i was written
module _ {A : Type 0} (n : ℕ) (rows : List (List A)) (square : IsSquare n rows) (i : ℕ) (row : List A) where
  pub row_written : (carried : A → ℕ) (k l : ℕ) → i < n → k ≡ i → cell carried (set rows i row) k l ≡ get_or (map carried row) l 0
  row_written carried k l lt here =
      let within : i < length rows = rw square.count lt in
      ap (λ (xs : List A). get_or (map carried xs) l 0) (get_or-set_at rows i k row [] here within)

  pub row_kept : (carried : A → ℕ) (k l : ℕ) → k ≢ i → cell carried (set rows i row) k l ≡ cell carried rows k l
  row_kept carried k l apart = ap (λ (xs : List A). get_or (map carried xs) l 0) (get_or-set_other rows i k row [] apart)

  pub row_square : length row ≡ n → IsSquare n (set rows i row)
  row_square count = record { count = length-set rows i row ∙ square.count; columns = λ k lt. go k lt (same_or_not k) }
    where
      same_or_not : (k : ℕ) → (k ≡ i) ⊎ (k ≢ i)
      same_or_not k = elim (cases_lt k i) [ inl low ↦ inr (λ e. omega arith) | inr high ↦ elim (cases_lt i k) [ inl low ↦ inr (λ e. omega arith) | inr le ↦ inl (omega arith) ] ]

      go : (k : ℕ) → k < n → (k ≡ i) ⊎ (k ≢ i) → length (get_or (set rows i row) k []) ≡ n
      go k lt (inl here) =
          let within : i < length rows = rw square.count (rw here at lt) in
          ap length (get_or-set_at rows i k row [] here within) ∙ count
      go k lt (inr apart) = ap length (get_or-set_other rows i k row [] apart) ∙ square.columns k lt

-- rows of which the cell in row i and column j was written
module _ {A : Type 0} (n : ℕ) (rows : List (List A)) (square : IsSquare n rows) (i j : ℕ) (x : A) (row : List A) (lt_i : i < n) (lt_j : j < n) (is : row ≡ get_or rows i []) where
  row_count : length row ≡ n
  row_count = ap length is ∙ square.columns i lt_i

  pub cell_square : IsSquare n (set rows i (set row j x))
  cell_square = row_square n rows square i (set row j x) (length-set row j x ∙ row_count)

  pub cell_written : (carried : A → ℕ) → cell carried (set rows i (set row j x)) i j ≡ carried x
  cell_written carried =
      let within : j < length (map carried row) = rw (length-map row carried, row_count) lt_j in
      row_written n rows square i (set row j x) carried i j lt_i refl
      ∙ ap (λ (xs : List ℕ). get_or xs j 0) (map-set carried row j x)
      ∙ get_or-set_same (map carried row) j (carried x) 0 within

  pub cell_kept : (carried : A → ℕ) (k l : ℕ) → (k ≢ i) ⊎ (l ≢ j) → cell carried (set rows i (set row j x)) k l ≡ cell carried rows k l
  cell_kept carried k l (inl apart) = row_kept n rows square i (set row j x) carried k l apart
  cell_kept carried k l (inr apart) = elim (cases_lt k i) [
    | inl low ↦ row_kept n rows square i (set row j x) carried k l (λ e. omega arith)
    | inr high ↦ elim (cases_lt i k) [
      | inl low ↦ row_kept n rows square i (set row j x) carried k l (λ e. omega arith)
      | inr le ↦ let here : k ≡ i = omega arith in
          row_written n rows square i (set row j x) carried k l lt_i here
          ∙ ap (λ (xs : List ℕ). get_or xs l 0) (map-set carried row j x)
          ∙ get_or-set_other (map carried row) j l (carried x) 0 apart
          ∙ ap (λ (xs : List A). get_or (map carried xs) l 0) (is ∙ ap (λ (m : ℕ). get_or rows m []) (sym here))
    ]
  ]

-- rows of which two mirrored cells were written, one after the other
module _ {A : Type 0} (carried : A → ℕ) (n : ℕ) (rows : List (List A)) (square : IsSquare n rows) (i j : ℕ) (x y : A) (low : i < j) (high : j < n) where
  abbrev pub upper_set : List (List A)
  upper_set = set rows i (set (get_or rows i []) j x)

  abbrev pub both_set : List (List A)
  both_set = set upper_set j (set (get_or upper_set j []) i y)

  upper_square : IsSquare n upper_set
  upper_square = cell_square n rows square i j x (get_or rows i []) (omega arith) high refl

  pub both_square : IsSquare n both_set
  both_square = cell_square n upper_set upper_square j i y (get_or upper_set j []) high (omega arith) refl

  pub lower_written : cell carried both_set j i ≡ carried y
  lower_written = cell_written n upper_set upper_square j i y (get_or upper_set j []) high (omega arith) refl carried

  kept_second : (k l : ℕ) → (k ≢ j) ⊎ (l ≢ i) → cell carried both_set k l ≡ cell carried upper_set k l
  kept_second k l apart = cell_kept n upper_set upper_square j i y (get_or upper_set j []) high (omega arith) refl carried k l apart

  kept_first : (k l : ℕ) → (k ≢ i) ⊎ (l ≢ j) → cell carried upper_set k l ≡ cell carried rows k l
  kept_first k l apart = cell_kept n rows square i j x (get_or rows i []) (omega arith) high refl carried k l apart

  pub upper_written : cell carried both_set i j ≡ carried x
  upper_written =
      kept_second i j (inl (λ e. omega arith)) ∙ cell_written n rows square i j x (get_or rows i []) (omega arith) high refl carried

  pub others_kept : (k l : ℕ) → (k ≢ i) ⊎ (l ≢ j) → (k ≢ j) ⊎ (l ≢ i) → cell carried both_set k l ≡ cell carried rows k l
  others_kept k l first second = kept_second k l second ∙ kept_first k l first
