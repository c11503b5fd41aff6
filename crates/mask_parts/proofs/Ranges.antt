-- Numbers in a row, and the elements of a list by their numbers.
use Rattle.std.proofs.Common.{◌≡◌, ℕ, zero, suc, ◌+◌, ◌<◌, ◌≤◌, Bool, false, List, [], ◌∷◌, ◌++◌, length, map, take, drop, get_or, All, refl, sym, ap, ap₂, ◌∙◌, arith}
use Rattle.std.specs.List.{range_with_len}
use Rattle.std.proofs.lemmas.List.{drop_more, drop-drop, take-append-drop, take_all}
use Rattle.std.proofs.lemmas.List.Elements.{All-nil, All-cons}
use Rattle.mask_circuit.specs.Value.{value_at}

-- what holds of each of them
pub All-range : (P : ℕ → Type 0) (n k : ℕ) → ((u : ℕ) → n ≤ u → u < n + k → P u) → All P (range_with_len n k)
All-range P n zero new = All-nil P
All-range P n (suc k) new =
    All-cons P n (range_with_len (n + 1) k) (new n (omega arith) (omega arith)) (All-range P (n + 1) k (λ u low high. new u (omega arith) (omega arith)))

-- counted from another one
pub map-range : (f a n b : ℕ) → f + a ≡ b → map (λ k. f + k) (range_with_len a n) ≡ range_with_len b n
map-range f a zero b at = refl
map-range f a (suc n) b at = ap₂ ◌∷◌ at (map-range f (a + 1) n (b + 1) (omega arith))

-- the first n of them, and k others
pub range-split : (a n k : ℕ) → range_with_len a (n + k) ≡ range_with_len a n ++ range_with_len (a + n) k
range-split a zero k = let e : a ≡ a + 0 = omega arith in ap₂ (λ (m l : ℕ). range_with_len m l) e (omega arith)
range-split a (suc n) k =
    let e : suc n + k ≡ suc (n + k) = omega arith in
    let at : a + 1 + n ≡ a + suc n = omega arith in
    rw (e, ← at) (ap (λ (us : List ℕ). a ∷ us) (range-split (a + 1) n k))

-- one more at the end
pub range-more : (a n : ℕ) → range_with_len a (n + 1) ≡ range_with_len a n ++ (a + n) ∷ []
range-more a n = range-split a n 1

-- the elements of a list by n numbers in a row
pub read-range : {A : Type 0} (d : A) (xs : List A) (a n : ℕ) → a + n ≤ length xs → map (λ i. get_or xs i d) (range_with_len a n) ≡ take n (drop a xs)
read-range d xs a zero within = refl
read-range d xs a (suc n) within = rw (drop_more xs a d (omega arith)) (ap (λ ys. get_or xs a d ∷ ys) (read-range d xs (a + 1) n (omega arith)))

-- so a list is its elements from place a on, and what comes behind them
pub elements : {A : Type 0} (d : A) (xs : List A) (a n : ℕ) → a + n ≤ length xs → drop a xs ≡ map (λ i. get_or xs i d) (range_with_len a n) ++ drop (a + n) xs
elements d xs a n within =
    sym (take-append-drop n (drop a xs)) ∙ ap₂ (λ ys zs. ys ++ zs) (sym (read-range d xs a n within)) (drop-drop n a xs)

-- a list of bits is all of its bits
pub read-all : (x : List Bool) → map (value_at x) (range_with_len 0 (length x)) ≡ x
read-all x = read-range false x 0 (length x) (omega arith) ∙ take_all (length x) x (omega arith)
