-- The pairs of shares: how many there are, where they stand, and that all fits for up to 8 shares.
use Rattle.std.proofs.Common.{◌≡◌, ℕ, zero, suc, ◌+◌, ◌-◌, ◌*◌, ◌/◌, ◌<◌, ◌≤◌, inl, inr, length, slice_get, Some, arith, lit≤, refl, sym, ◌∙◌, subst, length-append, add-one}
use Rattle.std.proofs.Math.Nat.{mul-le-mul_right}
use Rattle.mask_circuit.specs.Wires.{Pair, joined, row_pairs, pairs}
use Rattle.mask_circuit.specs.Pairs.{IsPair, pairs_before, pair_number, pair_count}
use Rattle.mask_circuit.proofs.Places.{below_cases, length-each, slice_get-each, slice_get-joined}

-- HOW MANY

-- the pairs before those of row i, counted
length-rows_before : (n i : ℕ) → length (joined (row_pairs n) i) ≡ pairs_before n i
length-rows_before n zero = refl
length-rows_before n (suc i) =
    let up = length-rows_before n i in
    let here = length-each {A = Pair} (λ (m : ℕ). (i, suc i + m)) (n - suc i) in
    omega (arith, length-append (joined (row_pairs n) i) (row_pairs n i))

-- twice the number of pairs in the rows before row i
twice_before : (n i : ℕ) → i ≤ n → 2 * pairs_before n i + i * suc i ≡ 2 * (i * n)
twice_before n zero le = omega arith
twice_before n (suc i) le = let up = twice_before n i (omega arith) in omega arith

half : (a b : ℕ) → 2 * a ≡ b → b / 2 ≡ a
half a b e = omega arith

-- the rows before row n have all pairs
pub pairs_before-count : (n : ℕ) → pairs_before n n ≡ pair_count n
pairs_before-count zero = refl
pairs_before-count (suc n) =
    let twice = twice_before (suc n) (suc n) (omega arith) in
    let one_less : suc n - 1 ≡ n = omega arith in
    sym (half (pairs_before (suc n) (suc n)) (suc n * (suc n - 1)) (rw one_less (omega arith)))

pub length-pairs : (n : ℕ) → length (pairs n) ≡ pair_count n
length-pairs n = length-rows_before n n ∙ pairs_before-count n

-- all rows have all pairs
pub pairs_before-all : (n i : ℕ) → i ≡ n → pairs_before n i ≡ length (pairs n)
pairs_before-all n i e = rw e (pairs_before-count n ∙ sym (length-pairs n))

-- one row more
pub pairs_before-more : (n i : ℕ) → pairs_before n (i + 1) ≡ pairs_before n i + (n - suc i)
pairs_before-more n i = rw (add-one i) refl

before-mono : (n i m : ℕ) → i < m → pairs_before n (suc i) ≤ pairs_before n m
before-mono n i zero lt = absurd (omega arith)
before-mono n i (suc m) lt = elim (below_cases i m lt) [
  | inl below ↦ let up = before-mono n i m below in omega arith
  | inr here ↦ rw here (omega arith)
]

-- a pair is left while not all are passed
pub row_left : (n i p rest : ℕ) → p < pair_count n → i < n → pairs_before n i + rest ≡ p → n - 1 - i ≤ rest → i + 1 < n
row_left n i p rest lt low e le = go (n - suc i) refl
  where
    go : (d : ℕ) → n - suc i ≡ d → i + 1 < n
    go (suc d) is = omega arith
    go zero is =
        let last : n ≡ suc i = omega arith in
        let all = pairs_before-count n in
        let more : pairs_before n n ≡ pairs_before n i + (n - suc i) = rw last refl in
        omega arith

-- WHERE

-- the pair (i, j) in its row, and in the whole list
in_row : (n i j : ℕ) → IsPair n i j → slice_get (row_pairs n i) (j - suc i) ≡ Some (i, j)
in_row n i j is =
    let second : suc i + (j - suc i) ≡ j = omega (arith, is.0) in
    subst (λ (k : ℕ). slice_get (row_pairs n i) (j - suc i) ≡ Some (i, k)) second
    (slice_get-each {A = Pair} (λ (k : ℕ). (i, suc i + k)) (n - suc i) (j - suc i) (omega (arith, is.0, is.1)))

pub slice_get-pairs : (n i j : ℕ) → IsPair n i j → slice_get (pairs n) (pair_number n i j) ≡ Some (i, j)
slice_get-pairs n i j is =
    rw (← (length-rows_before n i))
    (slice_get-joined (row_pairs n) n i (j - suc i) (i, j) (omega (arith, is.0, is.1)) (in_row n i j is))

-- the number of a pair, in closed form
pub pair_number-closed : (n i j : ℕ) → i < j → j < n → i * (2 * n - i - 1) / 2 + (j - i - 1) ≡ pair_number n i j
pair_number-closed n i j low high =
    let twice = twice_before n i (omega arith) in
    let rest : (2 * n - i - 1) + suc i ≡ 2 * n = omega arith in
    let whole : i * ((2 * n - i - 1) + suc i) ≡ i * (2 * n) = rw rest refl in
    let e : 2 * pairs_before n i ≡ i * (2 * n - i - 1) = omega arith in
    let before : i * (2 * n - i - 1) / 2 ≡ pairs_before n i = half (pairs_before n i) (i * (2 * n - i - 1)) e in
    omega arith

-- the number of a pair is below their count
pub pair_number-lt : (n i j : ℕ) → i < j → j < n → pair_number n i j < pair_count n
pair_number-lt n i j low high =
    let all = pairs_before-count n in
    let here = before-mono n i n (omega arith) in
    omega arith

-- UP TO 8 SHARES

-- the parts of a product's wires, for up to 8 shares
pub record Small (n : ℕ) : Type 0 where
  pub products : n * n ≤ 64
  pub pairs : pair_count n ≤ 28
  pub rows : n * (n - 1) ≤ 56

pub small : (n : ℕ) → n ≤ 8 → Small n
small zero le = record { products = lit≤ tt; pairs = lit≤ tt; rows = lit≤ tt }
small (suc zero) le = record { products = lit≤ tt; pairs = lit≤ tt; rows = lit≤ tt }
small (suc (suc zero)) le = record { products = lit≤ tt; pairs = lit≤ tt; rows = lit≤ tt }
small (suc (suc (suc zero))) le = record { products = lit≤ tt; pairs = lit≤ tt; rows = lit≤ tt }
small (suc (suc (suc (suc zero)))) le = record { products = lit≤ tt; pairs = lit≤ tt; rows = lit≤ tt }
small (suc (suc (suc (suc (suc zero))))) le = record { products = lit≤ tt; pairs = lit≤ tt; rows = lit≤ tt }
small (suc (suc (suc (suc (suc (suc zero)))))) le = record { products = lit≤ tt; pairs = lit≤ tt; rows = lit≤ tt }
small (suc (suc (suc (suc (suc (suc (suc zero))))))) le = record { products = lit≤ tt; pairs = lit≤ tt; rows = lit≤ tt }
small (suc (suc (suc (suc (suc (suc (suc (suc zero)))))))) le = record { products = lit≤ tt; pairs = lit≤ tt; rows = lit≤ tt }
small (suc (suc (suc (suc (suc (suc (suc (suc (suc n))))))))) le = absurd (omega arith)

-- one row is within all of them
pub row-fits : (n i : ℕ) → i < n → i * (n - 1) + (n - 1) ≤ n * (n - 1)
row-fits n i lt = let all : suc i * (n - 1) ≤ n * (n - 1) = mul-le-mul_right (n - 1) lt in omega arith
