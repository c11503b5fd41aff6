-- Lists that are made by number.
use Rattle.std.proofs.Common.{◌≡◌, ℕ, zero, suc, ◌<◌, inl, inr, List, [], ◌∷◌, ◌++◌, map, length, get_or, refl, ap, ◌∙◌, arith, sym}
use Rattle.std.specs.List.{concat}
use Rattle.std.proofs.lemmas.Bool.{cases_lt}
use Rattle.std.proofs.lemmas.List.{append-nil, ext_get_or, get_or_push, get_or_append_left, map-append}
use Rattle.std.proofs.lemmas.List.Folds.{concat-append}
use Rattle.mask_circuit.specs.Wires.{each}
use Rattle.mask_circuit.proofs.Places.{length-each}

pub get_or-each : {A : Type 0} (f : ℕ → A) (n k : ℕ) (d : A) → k < n → get_or (each f n) k d ≡ f k
get_or-each f zero k d lt = absurd (omega arith)
get_or-each f (suc n) k d lt = elim (cases_lt k n) [
  | inl below ↦ let l : k < length (each f n) = rw (length-each f n) below in
      get_or_append_left (each f n) (f n ∷ []) d k l ∙ get_or-each f n k d below
  | inr up ↦ let e : n ≡ k = omega arith in
      get_or_push (each f n) (f n) d k (length-each f n ∙ e) ∙ ap f e
]

-- a list of n numbers is made by f where each of them is that of f
pub is_each : (f : ℕ → ℕ) (n : ℕ) (xs : List ℕ) → length xs ≡ n → ((k : ℕ) → k < n → get_or xs k 0 ≡ f k) → xs ≡ each f n
is_each f n xs e same =
    ext_get_or 0 xs (each f n) (e ∙ sym (length-each f n))
    (λ k lt. let l : k < n = omega arith in same k l ∙ sym (get_or-each f n k 0 l))

-- the same elements give the same list
pub each-same : {A : Type 0} (f g : ℕ → A) (n : ℕ) → ((k : ℕ) → k < n → f k ≡ g k) → each f n ≡ each g n
each-same f g zero same = refl
each-same f g (suc n) same = rw (each-same f g n (λ k lt. same k (omega arith)), same n (omega arith)) refl

-- the first element, and then the others
pub each-first : {A : Type 0} (f : ℕ → A) (n : ℕ) → each f (suc n) ≡ f 0 ∷ each (λ i. f (suc i)) n
each-first f zero = refl
each-first f (suc n) = ap (λ (xs : List _). xs ++ f (suc n) ∷ []) (each-first f n)

-- a function of each element
pub map-each : {A B : Type 0} (h : A → B) (f : ℕ → A) (n : ℕ) → map h (each f n) ≡ each (λ i. h (f i)) n
map-each h f zero = refl
map-each h f (suc n) = rw (map-append h (each f n) (f n ∷ []), map-each h f n) refl

-- a list is made by its own elements
pub each-get_or : {A : Type 0} (xs : List A) (d : A) → each (λ i. get_or xs i d) (length xs) ≡ xs
each-get_or xs d =
    let count = length-each (λ i. get_or xs i d) (length xs) in
    ext_get_or d (each (λ i. get_or xs i d) (length xs)) xs count (λ i lt. get_or-each (λ j. get_or xs j d) (length xs) i d (omega arith))

-- one list more, at the end of lists end to end
pub concat-push : (xss : List (List ℕ)) (xs : List ℕ) → concat (xss ++ xs ∷ []) ≡ concat xss ++ xs
concat-push xss xs = concat-append xss (xs ∷ []) ∙ ap (λ (ys : List ℕ). concat xss ++ ys) (append-nil xs)
