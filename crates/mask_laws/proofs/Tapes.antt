-- Sums over all tapes, and tapes with a mask added.
use Rattle.std.proofs.Common.{◌≡◌, ℕ, zero, suc, ◌+◌, Bool, true, false, List, [], ◌∷◌, ◌++◌, length, refl, ap, ap₂, ◌∙◌, add_comm, zero-add, suc-add}
use Rattle.mask_circuit.specs.Value.{xor}
use Rattle.mask_circuit.specs.Probing.{sum_over_tapes}
use Rattle.mask_circuit.specs.Shift.{add_bits}

-- functions that agree on the tapes of length n have the same sum
pub sum_over_tapes-same : (n : ℕ) (f g : List Bool → ℕ) → ((r : List Bool) → length r ≡ n → f r ≡ g r) → sum_over_tapes n f ≡ sum_over_tapes n g
sum_over_tapes-same zero f g same = same [] refl
sum_over_tapes-same (suc n) f g same =
    ap₂ (λ (a b : ℕ). a + b)
    (sum_over_tapes-same n (λ r. f (false ∷ r)) (λ r. g (false ∷ r)) (λ r e. same (false ∷ r) (ap suc e)))
    (sum_over_tapes-same n (λ r. f (true ∷ r)) (λ r. g (true ∷ r)) (λ r e. same (true ∷ r) (ap suc e)))

-- a tape of m + n bits is m bits followed by n bits
pub sum_over_tapes-add : (m n : ℕ) (f : List Bool → ℕ) → sum_over_tapes (m + n) f ≡ sum_over_tapes m (λ a. sum_over_tapes n (λ b. f (a ++ b)))
sum_over_tapes-add zero n f = ap (λ (k : ℕ). sum_over_tapes k f) (zero-add n)
sum_over_tapes-add (suc m) n f =
    ap (λ (k : ℕ). sum_over_tapes k f) (suc-add m n)
    ∙ ap₂ (λ (a b : ℕ). a + b) (sum_over_tapes-add m n (λ r. f (false ∷ r))) (sum_over_tapes-add m n (λ r. f (true ∷ r)))

-- a fixed mask reorders the tapes
pub sum_over_tapes-masked : (n : ℕ) (m : List Bool) (f : List Bool → ℕ) → sum_over_tapes n (λ r. f (add_bits r m)) ≡ sum_over_tapes n f
sum_over_tapes-masked zero m f = refl
sum_over_tapes-masked (suc n) [] f = refl
sum_over_tapes-masked (suc n) (false ∷ m) f =
    ap₂ (λ (a b : ℕ). a + b) (sum_over_tapes-masked n m (λ r. f (false ∷ r))) (sum_over_tapes-masked n m (λ r. f (true ∷ r)))
sum_over_tapes-masked (suc n) (true ∷ m) f =
    ap₂ (λ (a b : ℕ). a + b) (sum_over_tapes-masked n m (λ r. f (true ∷ r))) (sum_over_tapes-masked n m (λ r. f (false ∷ r)))
    ∙ add_comm (sum_over_tapes n (λ r. f (true ∷ r))) (sum_over_tapes n (λ r. f (false ∷ r)))

pub length-add_bits : (r m : List Bool) → length (add_bits r m) ≡ length r
length-add_bits [] m = refl
length-add_bits (b ∷ r) [] = refl
length-add_bits (b ∷ r) (x ∷ m) = ap suc (length-add_bits r m)

xor-twice : (a b : Bool) → xor (xor a b) b ≡ a
xor-twice true true = refl
xor-twice true false = refl
xor-twice false true = refl
xor-twice false false = refl

-- a mask that is added twice is gone
pub add_bits-twice : (r m : List Bool) → add_bits (add_bits r m) m ≡ r
add_bits-twice [] m = refl
add_bits-twice (b ∷ r) [] = refl
add_bits-twice (b ∷ r) (x ∷ m) = ap₂ (λ (a : Bool) (as' : List Bool). a ∷ as') (xor-twice b x) (add_bits-twice r m)
