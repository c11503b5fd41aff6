-- Places below 64 and their binary digits.
use Rattle.std.proofs.Common.{◌≡◌, ℕ, suc, zero, ◌+◌, ◌-◌, ◌*◌, ◌/◌, ◌%◌, ◌^◌, ◌<◌, ◌≤◌, ◌⊎◌, inl, inr, refl, subst, sym, ◌∙◌, arith}
use Rattle.std.proofs.Math.Nat.{mod-eq_of_lt}
use Rattle.mask_bits.specs.Square.{across}

-- a power of two below 64
abbrev pub IsWidth : ℕ → Type 0
IsWidth w = (w ≡ 32) ⊎ (w ≡ 16) ⊎ (w ≡ 8) ⊎ (w ≡ 4) ⊎ (w ≡ 2) ⊎ (w ≡ 1)

-- what holds of each width
by_width : (P : ℕ → Type 0) → P 32 → P 16 → P 8 → P 4 → P 2 → P 1 → (w : ℕ) → IsWidth w → P w
by_width P a b c d e f w (inl h) = subst P (sym h) a
by_width P a b c d e f w (inr (inl h)) = subst P (sym h) b
by_width P a b c d e f w (inr (inr (inl h))) = subst P (sym h) c
by_width P a b c d e f w (inr (inr (inr (inl h)))) = subst P (sym h) d
by_width P a b c d e f w (inr (inr (inr (inr (inl h))))) = subst P (sym h) e
by_width P a b c d e f w (inr (inr (inr (inr (inr h))))) = subst P (sym h) f

-- none is as wide as the square
width_below : (w : ℕ) → IsWidth w → w < 64
width_below = by_width (λ w. w < 64) (omega arith) (omega arith) (omega arith) (omega arith) (omega arith) (omega arith)

-- a binary digit of a place below 64 weighs as much
pub width_of : (digit : ℕ) → digit < 6 → IsWidth (2 ^ digit)
width_of zero lt = inr (inr (inr (inr (inr refl))))
width_of (suc zero) lt = inr (inr (inr (inr (inl refl))))
width_of (suc (suc zero)) lt = inr (inr (inr (inl refl)))
width_of (suc (suc (suc zero))) lt = inr (inr (inl refl))
width_of (suc (suc (suc (suc zero)))) lt = inr (inl refl)
width_of (suc (suc (suc (suc (suc zero))))) lt = inl refl
width_of (suc (suc (suc (suc (suc (suc digit)))))) lt = absurd (omega arith)

-- a one that is shifted to this digit, and how far rows and places move for it
pub shifted_one : (digit : ℕ) → digit < 6 → (1 * 2 ^ digit % 2 ^ 64 ≡ 2 ^ digit) × (2 ^ digit < 64)
shifted_one digit lt =
    let small = width_below (2 ^ digit) (width_of digit lt) in (mod-eq_of_lt (omega arith) ∙ omega arith, small)

-- a place without the digit has a partner above
pub above : (w : ℕ) → IsWidth w → (i : ℕ) → i < 64 → i / w % 2 ≡ 0 → i + w < 64
above =
    by_width (λ w. (i : ℕ) → i < 64 → i / w % 2 ≡ 0 → i + w < 64)
    (λ i h d. omega arith) (λ i h d. omega arith) (λ i h d. omega arith) (λ i h d. omega arith) (λ i h d. omega arith) (λ i h d. omega arith)

-- a place with the digit has a partner below
pub below : (w : ℕ) → IsWidth w → (i : ℕ) → i / w % 2 ≡ 1 → (w ≤ i) × ((i - w) / w % 2 ≡ 0)
below =
    by_width (λ w. (i : ℕ) → i / w % 2 ≡ 1 → (w ≤ i) × ((i - w) / w % 2 ≡ 0))
    (λ i d. (omega arith, omega arith)) (λ i d. (omega arith, omega arith)) (λ i d. (omega arith, omega arith))
    (λ i d. (omega arith, omega arith)) (λ i d. (omega arith, omega arith)) (λ i d. (omega arith, omega arith))

-- w below a place without the digit is one with it
pub below_other : (w : ℕ) → IsWidth w → (i : ℕ) → i / w % 2 ≡ 0 → w ≤ i → (i - w) / w % 2 ≡ 1
below_other =
    by_width (λ w. (i : ℕ) → i / w % 2 ≡ 0 → w ≤ i → (i - w) / w % 2 ≡ 1)
    (λ i d h. omega arith) (λ i d h. omega arith) (λ i d h. omega arith) (λ i d h. omega arith) (λ i d h. omega arith) (λ i d h. omega arith)

-- the place a below w, and b from w on
abbrev pub mix : ℕ → ℕ → ℕ → ℕ
mix w a b = b / w * w + a % w

pub across-lt : (w : ℕ) → IsWidth w → (a b : ℕ) → a < 64 → b < 64 → across w a b < 64
across-lt =
    by_width (λ w. (a b : ℕ) → a < 64 → b < 64 → across w a b < 64)
    (λ a b h k. omega arith) (λ a b h k. omega arith) (λ a b h k. omega arith)
    (λ a b h k. omega arith) (λ a b h k. omega arith) (λ a b h k. omega arith)

-- one digit more is exchanged
pub mix-across : (w : ℕ) → IsWidth w → (a b : ℕ) → mix (2 * w) (across w a b) (across w b a) ≡ mix w a b
mix-across =
    by_width (λ w. (a b : ℕ) → mix (2 * w) (across w a b) (across w b a) ≡ mix w a b)
    (λ a b. omega arith) (λ a b. omega arith) (λ a b. omega arith) (λ a b. omega arith) (λ a b. omega arith) (λ a b. omega arith)
