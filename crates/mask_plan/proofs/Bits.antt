-- Bits of a byte and of a key.
use Rattle.std.proofs.Common.{◌≡◌, ℕ, suc, ◌+◌, ◌-◌, ◌*◌, ◌/◌, ◌%◌, ◌<◌, ◌≤◌, Bool, true, false, List, [], ◌∷◌, ◌++◌, length, map, get_or, refl, sym, ap, ap₂, ◌∙◌, arith}
use Rattle.std.specs.Prelude.{slice_index}
use Rattle.std.proofs.lemmas.List.{get_or-append_right, get_or_append_left}
use Rattle.mask_bits.specs.Reading.{bit, low, high}
use Rattle.mask_modes.proofs.Readings.{bytes_are_read}

-- two lists that a map each takes to the same elements
pub map_same : {A B C : Type 0} (f : A → C) (g : B → C) (xs : List A) (ys : List B) (d : A) (e : B) → length xs ≡ length ys →
    ((k : ℕ) → k < length ys → f (get_or xs k d) ≡ g (get_or ys k e)) → map f xs ≡ map g ys
map_same f g [] [] d e long same = refl
map_same f g [] (y ∷ ys) d e long same = absurd (omega (arith, long))
map_same f g (x ∷ xs) [] d e long same = absurd (omega (arith, long))
map_same {A} {B} {C} f g (x ∷ xs) (y ∷ ys) d e long same =
    ap₂ (λ (z : C) (zs : List C). z ∷ zs) (same 0 (omega arith))
    (map_same f g xs ys d e (omega (arith, long)) (λ k lt. same (suc k) (omega (arith, lt))))

-- where the bit of weight 2 ^ j of a little-endian number stands, and of a big-endian one
pub low_bit_is : (bytes : List ℕ) (j : ℕ) → j < 8 * length bytes → bit (j % 8) (slice_index bytes (j / 8)) ≡ get_or (low bytes) j false
low_bit_is bytes j lt =
    let place : 8 * (j / 8) + j % 8 ≡ j = omega arith in
    sym (bytes_are_read.low_place bytes (j / 8) (j % 8) (omega arith) (omega arith)) ∙ ap (λ (i : ℕ). get_or (low bytes) i false) place

pub high_bit_is : (bytes : List ℕ) (j : ℕ) → j < 8 * length bytes → bit (j % 8) (slice_index bytes (length bytes - 1 - j / 8)) ≡ get_or (high bytes) j false
high_bit_is bytes j lt =
    let place : 8 * (length bytes - 1 - (length bytes - 1 - j / 8)) + j % 8 ≡ j = omega arith in
    sym (bytes_are_read.high_place bytes (length bytes - 1 - j / 8) (j % 8) (omega arith) (omega arith))
    ∙ ap (λ (i : ℕ). get_or (high bytes) i false) place

-- a bit of two big-endian numbers, one behind the other, is one of the first or of the second
pub in_first : (first second : List ℕ) (j : ℕ) → j / 8 < length first → get_or (high first) j false ≡ get_or (high first ++ high second) j false
in_first first second j here =
    sym (get_or_append_left (high first) (high second) false j (omega (arith, here, bytes_are_read.high_first.count first)))

pub in_second : (first second : List ℕ) (j : ℕ) → length first ≤ j / 8 →
    get_or (high second) (j - 8 * length first) false ≡ get_or (high first ++ high second) j false
in_second first second j past =
    sym (get_or-append_right (high first) (high second) (8 * length first) j false (bytes_are_read.high_first.count first) (omega (arith, past)))
