-- The number of a list of bits: of its first ones and of those behind them, and of an XOR of two lists.
use Rattle.std.proofs.Common.{◌≡◌, ℕ, ◌+◌, ◌*◌, ◌/◌, ◌%◌, ◌^◌, ◌<◌, ◌≤◌, Bool, List, [], ◌∷◌, length, take, drop, refl, sym, ap, ◌∙◌, arith, bit_xor}
use Rattle.std.proofs.lemmas.Nat.{div-mul-add, mod-mul-add}
use Rattle.std.proofs.lemmas.List.{length-take-le, take-append-drop}
use Rattle.mask_bits.specs.Reading.{number}
use Rattle.mask_bits.proofs.Numbers.{number-append, number-lt}
use Rattle.mask_parts.specs.Rows.{xor_bits}
use Rattle.mask_parts.proofs.WordNumbers.{xor-low}

-- the number of a list is that of its first n bits and that of the others
pub number-split : (n : ℕ) (bits : List Bool) → n ≤ length bits → number bits ≡ number (drop n bits) * 2 ^ n + number (take n bits)
number-split n bits within =
    let long : length (take n bits) ≡ n = length-take-le n bits within in
    ap number (sym (take-append-drop n bits)) ∙ number-append (take n bits) (drop n bits) ∙ rw long (omega arith)

pub number_take-lt : (n : ℕ) (bits : List Bool) → n ≤ length bits → number (take n bits) < 2 ^ n
number_take-lt n bits within = rw (length-take-le n bits within) at (number-lt (take n bits))

pub number-drop : (n : ℕ) (bits : List Bool) → n ≤ length bits → number (drop n bits) ≡ number bits / 2 ^ n
number-drop n bits within =
    rw (number-split n bits within) (sym (div-mul-add (number (drop n bits)) (2 ^ n) (number (take n bits)) (number_take-lt n bits within)))

pub number-take : (n : ℕ) (bits : List Bool) → n ≤ length bits → number (take n bits) ≡ number bits % 2 ^ n
number-take n bits within =
    rw (number-split n bits within) (sym (mod-mul-add (number (drop n bits)) (2 ^ n) (number (take n bits)) (number_take-lt n bits within)))

pub number-xor_bits : (xs ys : List Bool) → length xs ≡ length ys → number (xor_bits xs ys) ≡ bit_xor (number xs) (number ys)
unfolding xor_bits
number-xor_bits [] [] same = refl
number-xor_bits [] (y ∷ ys) same = absurd (omega arith)
number-xor_bits (x ∷ xs) [] same = absurd (omega arith)
number-xor_bits (x ∷ xs) (y ∷ ys) same = rw (number-xor_bits xs ys (omega arith)) (sym (xor-low x y (number xs) (number ys)))
