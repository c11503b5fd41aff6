-- Sums of bits.
use Rattle.std.proofs.Common.{◌≡◌, ℕ, zero, suc, ◌<◌, Bool, true, false, cond, ◌&&◌, ◌==◌, List, [], ◌∷◌, fold, refl, ap, ap₂, sym, ◌∙◌, arith}
use Rattle.std.proofs.lemmas.List.Sums.{fold-append}
use Rattle.mask_circuit.specs.Value.{xor}
use Rattle.mask_circuit.specs.Ring.{bits}
use Rattle.mask_circuit.specs.Wires.{each, row_sum}
use Rattle.mask_circuit.specs.Sharing.{shared, unmasked}
use Rattle.mask_laws.proofs.Bits.{xor-false, xor_self, xor_comm, xor_assoc}

-- with `xor_comm` and `xor_assoc` it sorts sums
pub xor_left_comm : (a b c : Bool) → xor a (xor b c) ≡ xor b (xor a c)
xor_left_comm false b c = refl
xor_left_comm true true c = refl
xor_left_comm true false c = refl

-- what is added twice is gone
pub xor_cancel : (a b : Bool) → xor a (xor a b) ≡ b
xor_cancel false b = refl
xor_cancel true true = refl
xor_cancel true false = refl

-- a product with a sum is the sum of products
pub xor_and : (a b c : Bool) → (xor a b && c) ≡ xor (a && c) (b && c)
xor_and true true true = refl
xor_and true true false = refl
xor_and true false true = refl
xor_and true false false = refl
xor_and false b c = refl

-- the laws that sort a sum
pub ruleset sums = (xor-false, xor_self, xor_comm, xor_assoc, xor_left_comm, xor_cancel)

-- the sum f 0 + .. + f (n - 1)
abbrev pub total : (ℕ → Bool) → ℕ → Bool
total f zero = false
total f (suc n) = xor (total f n) (f n)

-- a sum from a first bit on
pub fold-xor : (a : Bool) (xs : List Bool) → fold xor a xs ≡ xor a (unmasked bits xs)
fold-xor a [] = sym (xor-false a)
fold-xor a (x ∷ xs) = fold-xor (xor a x) xs ∙ xor_assoc a x (unmasked bits xs) ∙ ap (xor a) (sym (fold-xor x xs))

-- the sum of all shares of a bit is the bit
pub shared-unmasks : (b : Bool) (coins : List Bool) → unmasked bits (shared bits b coins) ≡ b
shared-unmasks b coins =
    fold-xor (fold xor b coins) coins
    ∙ ap (λ (x : Bool). xor x (unmasked bits coins)) (fold-xor b coins)
    ∙ xor_assoc b (unmasked bits coins) (unmasked bits coins)
    ∙ ap (xor b) (xor_self (unmasked bits coins))
    ∙ xor-false b

-- the sum of a list that is made by number
pub unmasked-each : (f : ℕ → Bool) (n : ℕ) → unmasked bits (each f n) ≡ total f n
unmasked-each f zero = refl
unmasked-each f (suc n) = rw (fold-append xor false (each f n) (f n ∷ []), unmasked-each f n) refl

-- the sum of sums is the sum of the terms' sums
pub total-xor : (f g : ℕ → Bool) (n : ℕ) → total (λ i. xor (f i) (g i)) n ≡ xor (total f n) (total g n)
total-xor f g zero = refl
total-xor f g (suc n) = rw (total-xor f g n) (simp (xor_comm, xor_assoc, xor_left_comm))

-- equal terms below n give equal sums
pub total_same : (f g : ℕ → Bool) (n : ℕ) → ((i : ℕ) → i < n → f i ≡ g i) → total f n ≡ total g n
total_same f g zero h = refl
total_same f g (suc n) h = ap₂ xor (total_same f g n (λ i l. h i (omega arith))) (h n (omega arith))

-- zeros sum to zero
pub total_none : (n : ℕ) → total (λ i. false) n ≡ false
total_none zero = refl
total_none (suc n) = rw (total_none n) refl

-- a sum with one factor in common
pub total-and_left : (a : Bool) (f : ℕ → Bool) (n : ℕ) → total (λ i. a && f i) n ≡ (a && total f n)
total-and_left true f n = refl
total-and_left false f n = total_none n

-- the same with the factor on the right
pub total-and_right : (a : Bool) (f : ℕ → Bool) (n : ℕ) → total (λ i. f i && a) n ≡ (total f n && a)
total-and_right a f zero = refl
total-and_right a f (suc n) = rw (total-and_right a f n) (sym (xor_and (total f n) (f n) a))

-- the first column of a row
row_start : (b first t : Bool) → cond b first (xor first t) ≡ xor first (xor false (cond b false t))
row_start true first t = sym (xor-false first)
row_start false first t = refl

-- one more row and column of a square
corner : (s t a b : Bool) → xor (s && t) (xor (xor (s && b) (a && t)) (a && b)) ≡ (xor s a && xor t b)
corner false t false b = refl
corner false t true b = refl
corner true t false b = simp xor-false
corner true t true b = simp sums

-- where the old square and its new border sum to what they should, so does the new square
grow : (s t a b d o p q : Bool) → xor d o ≡ (s && t) → xor p q ≡ xor (s && b) (a && t) → xor (xor d (a && b)) (xor (xor o p) q) ≡ (xor s a && xor t b)
grow s t a b d o p q old border =
    let sorted : xor (xor d (a && b)) (xor (xor o p) q) ≡ xor (xor d o) (xor (xor p q) (a && b)) = simp (xor_comm, xor_assoc, xor_left_comm) in
    sorted ∙ ap₂ (λ y z. xor y (xor z (a && b))) old border ∙ corner s t a b

-- one more column of a row
row_step : (b first t s : Bool) → cond b (xor first s) (xor (xor first s) t) ≡ xor first (xor s (cond b false t))
row_step true first t s = ap (xor first) (sym (xor-false s))
row_step false first t s = xor_assoc first s t

-- A row up to column k: the first bit, and each term but that of column i.
pub row_sum-total : (first : Bool) (term : ℕ → Bool) (i k : ℕ) → row_sum bits first term i k ≡ xor first (total (λ j. cond (i == j) false (term j)) (suc k))
row_sum-total first term i zero = row_start (i == 0) first (term 0)
row_sum-total first term i (suc k) =
    ap (λ s. cond (i == suc k) s (xor s (term (suc k)))) (row_sum-total first term i k)
    ∙ row_step (i == suc k) first (term (suc k)) (total (λ j. cond (i == j) false (term j)) (suc k))

-- The sum over a square without its diagonal, beside that of a_i · b_i: where the entries of the places (i, j) and
-- (j, i) sum to a_i · b_j + a_j · b_i, it is the product of the sums of a and b.
pub square : (entry : ℕ → ℕ → Bool) (a b : ℕ → Bool) → ((i : ℕ) → entry i i ≡ false) →
    ((i j : ℕ) → i < j → xor (entry i j) (entry j i) ≡ xor (a i && b j) (a j && b i)) →
    (n : ℕ) → xor (total (λ i. a i && b i) n) (total (λ i. total (entry i) n) n) ≡ (total a n && total b n)
square entry a b diagonal pair zero = refl
square entry a b diagonal pair (suc n) =
    let border : xor (total (λ i. entry i n) n) (total (entry n) n) ≡ xor (total a n && b n) (a n && total b n) =
    sym (total-xor (λ i. entry i n) (entry n) n)
    ∙ total_same _ _ n (λ i l. pair i n l)
    ∙ total-xor (λ i. a i && b n) (λ i. a n && b i) n
    ∙ ap₂ xor (total-and_right (b n) a n) (total-and_left (a n) b n)
    in
    let rows : xor (total (λ i. total (entry i) (suc n)) n) (total (entry n) (suc n))
    ≡ xor (xor (total (λ i. total (entry i) n) n) (total (λ i. entry i n) n)) (total (entry n) n) =
    ap₂ xor (total-xor (λ i. total (entry i) n) (λ i. entry i n) n) (ap (xor (total (entry n) n)) (diagonal n) ∙ xor-false _)
    in
    ap (xor (xor (total (λ i. a i && b i) n) (a n && b n))) rows
    ∙ grow (total a n) (total b n) (a n) (b n) (total (λ i. a i && b i) n) (total (λ i. total (entry i) n) n)
    (total (λ i. entry i n) n) (total (entry n) n) (square entry a b diagonal pair n) border
