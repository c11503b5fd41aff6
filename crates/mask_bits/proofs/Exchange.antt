-- The bits of a row whose quarters were exchanged, and what six exchanges make.
use Rattle.std.proofs.Common.{◌≡◌, ℕ, zero, suc, ◌+◌, ◌-◌, ◌*◌, ◌/◌, ◌%◌, ◌^◌, ◌<◌, ◌≤◌, ◌⊎◌, inl, inr, nat_eq, List, get_or, refl, sym, ap, ◌∙◌, arith, add-zero}
use Rattle.std.specs.Prelude.{bit_and, bit_or}
use Rattle.std.specs.Int.{w64, bit_at, bit_not}
use Rattle.std.proofs.lemmas.Bool.{cases_lt}
use Rattle.std.proofs.lemmas.Nat.{and_mask, pow-add, pow_pos}
use Rattle.std.proofs.Math.Nat.{div-div-eq-div-mul}
use Rattle.std.proofs.lemmas.Nat.Bits.{bit_at_and, bit_at_or, bit_at_not, bit_at_ones, bit_at-lt, bit_at-zero, bit_at_cat_low, bit_at_cat_high}
use Rattle.mask_bits.specs.Reading.{bit}
use Rattle.mask_bits.specs.Square.{IsTransposed, IsMask, IsExchanged, across}
use Rattle.mask_bits.proofs.Places.{IsWidth, below, below_other, mix, across-lt, mix-across}

-- the bits of a word that is cut to 64, shifted down, shifted up
bit_at-mod : (n k j : ℕ) → j < k → bit_at (n % 2 ^ k) j ≡ bit_at n j
bit_at-mod n k j h =
    let small = bit_at-lt n j in
    rw (← and_mask n k, bit_at_and n (2 ^ k - 1) j, bit_at_ones k j h) (omega arith)

pub bit_at-shr : (n w j : ℕ) → bit_at (n / 2 ^ w) j ≡ bit_at n (w + j)
bit_at-shr n w j = rw (div-div-eq-div-mul n (2 ^ w) (2 ^ j), ← pow-add 2 w j) refl

pub bit_at-shl_low : (n w j : ℕ) → j < w → j < 64 → bit_at (n * 2 ^ w % 2 ^ 64) j ≡ 0
bit_at-shl_low n w j h k =
    bit_at-mod (n * 2 ^ w) 64 j k ∙ ap (λ m. bit_at m j) (sym (add-zero (n * 2 ^ w))) ∙ bit_at_cat_low n w 0 j h ∙ bit_at-zero j

pub bit_at-shl_high : (n w j : ℕ) → w ≤ j → j < 64 → bit_at (n * 2 ^ w % 2 ^ 64) j ≡ bit_at n (j - w)
bit_at-shl_high n w j h k =
    bit_at-mod (n * 2 ^ w) 64 j k ∙ ap (λ m. bit_at m j) (sym (add-zero (n * 2 ^ w))) ∙ bit_at_cat_high n w 0 j (pow_pos w) h

-- a binary digit is 0 or 1
digit_cases : (d : ℕ) → d < 2 → (d ≡ 0) ⊎ (d ≡ 1)
digit_cases zero h = inl refl
digit_cases (suc zero) h = inr refl
digit_cases (suc (suc d)) h = absurd (omega arith)

mask_digit : (m d : ℕ) → m < 2 → d < 2 → nat_eq m 1 ≡ nat_eq d 0 → m ≡ 1 - d
mask_digit zero zero h k e = cc
mask_digit zero (suc zero) h k e = refl
mask_digit (suc zero) zero h k e = refl
mask_digit (suc zero) (suc zero) h k e = cc
mask_digit (suc (suc m)) d h k e = absurd (omega arith)
mask_digit zero (suc (suc d)) h k e = absurd (omega arith)
mask_digit (suc zero) (suc (suc d)) h k e = absurd (omega arith)

-- the mask's bit is 1 less the digit
mask_at : (w mask j : ℕ) → IsMask w mask → j < 64 → bit_at mask j ≡ 1 - j / w % 2
mask_at w mask j is_mask h = mask_digit (bit_at mask j) (j / w % 2) (bit_at-lt mask j) (omega arith) (is_mask j h)

-- a row without the digit: its low bits stay, and its high ones are its partner's low ones
low_kept : (w mask x y j : ℕ) → IsWidth w → IsMask w mask → j < 64 → j / w % 2 ≡ 0
    → bit_at (bit_or (bit_and x mask) (bit_and y mask * 2 ^ w % 2 ^ 64)) j ≡ bit_at x j
low_kept w mask x y j is_width is_mask h d =
    let small = bit_at-lt x j in
    let here : bit_at mask j ≡ 1 = rw (mask_at w mask j is_mask h, d) refl in
    let none : bit_at (bit_and y mask * 2 ^ w % 2 ^ 64) j ≡ 0 =
    elim (cases_lt j w) [
      | inl low ↦ bit_at-shl_low (bit_and y mask) w j low h
      | inr high ↦
          let out : bit_at mask (j - w) ≡ 0 = rw (mask_at w mask (j - w) is_mask (omega arith), below_other w is_width j d high) refl in
          bit_at-shl_high (bit_and y mask) w j high h ∙ rw (bit_at_and, out) (omega arith)
    ] in
    rw (bit_at_or, bit_at_and, here, none) (omega arith)

low_taken : (w mask x y j : ℕ) → IsWidth w → IsMask w mask → j < 64 → j / w % 2 ≡ 1
    → bit_at (bit_or (bit_and x mask) (bit_and y mask * 2 ^ w % 2 ^ 64)) j ≡ bit_at y (j - w)
low_taken w mask x y j is_width is_mask h d =
    let lower = below w is_width j d in
    let small = bit_at-lt y (j - w) in
    let here : bit_at mask j ≡ 0 = rw (mask_at w mask j is_mask h, d) refl in
    let there : bit_at mask (j - w) ≡ 1 = rw (mask_at w mask (j - w) is_mask (omega arith), lower.1) refl in
    let moved : bit_at (bit_and y mask * 2 ^ w % 2 ^ 64) j ≡ bit_at y (j - w) =
    bit_at-shl_high (bit_and y mask) w j lower.0 h ∙ rw (bit_at_and, there) (omega arith) in
    rw (bit_at_or, bit_at_and, here, moved) (omega arith)

pub exchanged_low : (w mask i : ℕ) (rows : List ℕ) → IsWidth w → IsMask w mask → i / w % 2 ≡ 0
    → IsExchanged w rows i (bit_or (bit_and (get_or rows i 0) mask) (bit_and (get_or rows (i + w) 0) mask * 2 ^ w % 2 ^ 64))
exchanged_low w mask i rows is_width is_mask e j h =
    elim (digit_cases (j / w % 2) (omega arith)) [
      | inl d ↦
          let place : across w j i ≡ j = rw (d, e) (omega arith) in
          let row : across w i j ≡ i = rw (e, d) (omega arith) in
          rw (place, row) (ap (λ (b : ℕ). nat_eq b 1) (low_kept w mask _ _ j is_width is_mask h d))
      | inr d ↦
          let place : across w j i ≡ j - w = rw (d, e) (omega arith) in
          let row : across w i j ≡ i + w = rw (e, d) (omega arith) in
          rw (place, row) (ap (λ (b : ℕ). nat_eq b 1) (low_taken w mask _ _ j is_width is_mask h d))
    ]

-- a row with the digit: its high bits stay, and its low ones are its partner's high ones
high_taken : (w mask x y j : ℕ) → IsMask w mask → mask < 2 ^ 64 → j < 64 → j / w % 2 ≡ 0
    → bit_at (bit_or (bit_and (x / 2 ^ w) mask) (bit_and y (bit_not w64 mask))) j ≡ bit_at x (j + w)
high_taken w mask x y j is_mask fits h d =
    let small = bit_at-lt x (w + j) in
    let here : bit_at mask j ≡ 1 = rw (mask_at w mask j is_mask h, d) refl in
    let turned : w + j ≡ j + w = omega arith in
    rw (bit_at_or, bit_at_and, bit_at_and, bit_at_not w64 mask j fits h, here, bit_at-shr, ← turned) (omega arith)

high_kept : (w mask x y j : ℕ) → IsMask w mask → mask < 2 ^ 64 → j < 64 → j / w % 2 ≡ 1
    → bit_at (bit_or (bit_and (x / 2 ^ w) mask) (bit_and y (bit_not w64 mask))) j ≡ bit_at y j
high_kept w mask x y j is_mask fits h d =
    let small = bit_at-lt y j in
    let here : bit_at mask j ≡ 0 = rw (mask_at w mask j is_mask h, d) refl in
    rw (bit_at_or, bit_at_and, bit_at_and, bit_at_not w64 mask j fits h, here) (omega arith)

pub exchanged_high : (w mask i : ℕ) (rows : List ℕ) → IsWidth w → IsMask w mask → mask < 2 ^ 64 → i / w % 2 ≡ 1
    → IsExchanged w rows i (bit_or (bit_and (get_or rows (i - w) 0 / 2 ^ w) mask) (bit_and (get_or rows i 0) (bit_not w64 mask)))
exchanged_high w mask i rows is_width is_mask fits e j h =
    let within = (below w is_width i e).0 in
    elim (digit_cases (j / w % 2) (omega arith)) [
      | inl d ↦
          let place : across w j i ≡ j + w = rw (d, e) (omega arith) in
          let row : across w i j ≡ i - w = rw (e, d) (omega arith) in
          rw (place, row) (ap (λ (b : ℕ). nat_eq b 1) (high_taken w mask _ _ j is_mask fits h d))
      | inr d ↦
          let lower = (below w is_width j d).0 in
          let place : across w j i ≡ j = rw (d, e) (omega arith) in
          let row : across w i j ≡ i = rw (e, d) (omega arith) in
          rw (place, row) (ap (λ (b : ℕ). nat_eq b 1) (high_kept w mask _ _ j is_mask fits h d))
    ]

-- the digits from weight w on are exchanged
abbrev pub IsMixed : ℕ → List ℕ → List ℕ → Type 0
IsMixed w old new = (i j : ℕ) → i < 64 → j < 64 → bit j (get_or new i 0) ≡ bit (mix w j i) (get_or old (mix w i j) 0)

-- none yet
pub mixed_none : (rows : List ℕ) → IsMixed 64 rows rows
mixed_none rows i j h k =
    let place : mix 64 j i ≡ j = omega arith in
    let row : mix 64 i j ≡ i = omega arith in
    rw (place, row) refl

-- one more
pub mixed_more : (w : ℕ) (old mid new : List ℕ) → IsWidth w → IsMixed (2 * w) old mid
    → ((i : ℕ) → i < 64 → IsExchanged w mid i (get_or new i 0)) → IsMixed w old new
mixed_more w old mid new is_width mixed exchanged i j h k =
    let before = mixed (across w i j) (across w j i) (across-lt w is_width i j h k) (across-lt w is_width j i k h) in
    exchanged i h j k ∙ before ∙ rw (mix-across w is_width j i, mix-across w is_width i j) refl

-- all six
pub mixed_all : (old new : List ℕ) → IsMixed 1 old new → IsTransposed old new
mixed_all old new mixed i j h k =
    let place : mix 1 i j ≡ j = omega arith in
    let row : mix 1 j i ≡ i = omega arith in
    mixed j i k h ∙ rw (place, row) refl
