-- The layer of bits on numbers and on lists of bits.
use Rattle.std.proofs.Common.{◌≡◌, ℕ, zero, suc, ◌+◌, ◌*◌, ◌%◌, ◌^◌, ◌<◌, Bool, true, false, ◌==◌, List, map, get_or, refl, sym, ap, ◌∙◌, arith, lit<, if◌then◌else◌, sum_by}
use Rattle.std.specs.Int.{bit_at}
use Rattle.std.specs.List.{range_with_len}
use Rattle.std.proofs.lemmas.List.Sums.{sum_by-cons}
use Rattle.mask_bits.specs.Reading.{number}
use Rattle.mask_bits.proofs.Numbers.{bit-number, worth}
use Rattle.mask_present.specs.Rounds.{source}
use Rattle.mask_present.specs.Present.{place, permuted}

either-lt : (b : Bool) (m : ℕ) → m < 63 → (if b then 63 else m) < 64
either-lt true m h = lit< tt
either-lt false m h = omega arith

pub source-lt : (i : ℕ) → source i < 64
source-lt i = either-lt (i == 63) (4 * i % 63) (omega arith)

-- f a + f (a + 1) + .. with n terms
abbrev total : (ℕ → ℕ) → ℕ → ℕ → ℕ
total f a zero = 0
total f a (suc n) = f a + total f (a + 1) n

-- the number whose n binary digits are f a, f (a + 1), ..
abbrev digits : (ℕ → ℕ) → ℕ → ℕ → ℕ
digits f a zero = 0
digits f a (suc n) = f a + 2 * digits f (a + 1) n

sum_by-range : (f : ℕ → ℕ) (a n : ℕ) → sum_by f (range_with_len a n) ≡ total f a n
sum_by-range f a zero = refl
sum_by-range f a (suc n) = sum_by-cons f a (range_with_len (a + 1) n) ∙ ap (λ m. f a + m) (sum_by-range f (a + 1) n)

-- moved to their places, the digits are those of the sources in order
spread : (w : ℕ → ℕ) → total (λ j. w j * 2 ^ place j) 0 64 ≡ digits (λ i. w (source i)) 0 64
spread w = omega arith

number-digits : (g : ℕ → Bool) (a n : ℕ) → number (map g (range_with_len a n)) ≡ digits (λ i. if g i then 1 else 0) a n
number-digits g a zero = refl
number-digits g a (suc n) = ap (λ m. (if g a then 1 else 0) + 2 * m) (number-digits g (a + 1) n)

sum_by-same : (f g : ℕ → ℕ) (a n : ℕ) → ((j : ℕ) → f j ≡ g j) → total f a n ≡ total g a n
sum_by-same f g a zero same = refl
sum_by-same f g a (suc n) same = rw (same a, sum_by-same f g (a + 1) n same) refl

-- the block of bits, each from its source
pub permuted-number : (bits : List Bool) → permuted (number bits) ≡ number (map (λ i. get_or bits (source i) false) (range_with_len 0 64))
unfolding permuted
permuted-number bits =
    let weight : ℕ → ℕ = λ j. if get_or bits j false then 1 else 0 in
    let same : (j : ℕ) → bit_at (number bits) j * 2 ^ place j ≡ weight j * 2 ^ place j =
    λ j. ap (λ b. b * 2 ^ place j) (sym (worth j (number bits)) ∙ ap (λ (b : Bool). if b then 1 else 0) (bit-number bits j)) in
    sum_by-range (λ j. bit_at (number bits) j * 2 ^ place j) 0 64 ∙ sum_by-same _ (λ j. weight j * 2 ^ place j) 0 64 same ∙ spread weight
    ∙ sym (number-digits (λ i. get_or bits (source i) false) 0 64)
