-- The number of a list of bits: of a rotation, and of a list with a stretch replaced.
use Rattle.std.proofs.Common.{◌≡◌, ℕ, ◌+◌, ◌*◌, ◌/◌, ◌%◌, ◌^◌, ◌<◌, ◌≤◌, Bool, List, ◌++◌, length, take, drop, refl, ap, ◌∙◌, arith, bit_xor}
use Rattle.std.proofs.lemmas.Nat.{pow_pos, xor_block, pow-add}
use Rattle.std.specs.Int.Bits.{xor_zero_r}
use Rattle.std.proofs.lemmas.List.{length-take-le, length-drop, drop-drop}
use Rattle.mask_bits.specs.Reading.{number}
use Rattle.mask_parts.proofs.NumberParts.{number-split, number_take-lt, number-drop, number-take}
use Rattle.mask_present.specs.Rounds.{with_stretch}
use Rattle.mask_bits.proofs.Numbers.{number-append}

-- the highest b bits before the lowest a
pub number-rotated : (a b : ℕ) (bits : List Bool) → length bits ≡ a + b
    → number (drop a bits ++ take a bits) ≡ number bits % 2 ^ a * 2 ^ b + number bits / 2 ^ a
number-rotated a b bits long =
    let within : a ≤ length bits = omega arith in
    let rest : length (drop a bits) ≡ b = length-drop a bits ∙ omega arith in
    number-append (drop a bits) (take a bits) ∙ rw (rest, number-drop a bits within, number-take a bits within) (omega arith)

regroup : (A B high mid low : ℕ) → low + A * (mid + B * high) ≡ high * (A * B) + mid * A + low
regroup A B high mid low = omega arith

-- bits from place a on are replaced
pub number-stretch : (a b : ℕ) (ys bits : List Bool) → length ys ≡ b → a + b ≤ length bits
    → number (with_stretch a ys bits) ≡ number bits / 2 ^ (a + b) * 2 ^ (a + b) + number ys * 2 ^ a + number bits % 2 ^ a
unfolding with_stretch
number-stretch a b ys bits long within =
    let low : a ≤ length bits = omega arith in
    let count : length (take a bits) ≡ a = length-take-le a bits low in
    let power : 2 ^ (a + b) ≡ 2 ^ a * 2 ^ b = pow-add 2 a b in
    rw (
      number-append (take a bits) (ys ++ drop (a + length ys) bits),
      count,
      number-append ys (drop (a + length ys) bits),
      long,
      number-take a bits low,
      number-drop (a + b) bits within,
      power,
    ) (regroup (2 ^ a) (2 ^ b) _ _ _)

-- the bits from place a on
pub number-between : (a b : ℕ) (bits : List Bool) → a + b ≤ length bits → number (take b (drop a bits)) ≡ number bits / 2 ^ a % 2 ^ b
number-between a b bits within =
    let rest : b ≤ length (drop a bits) = rw (length-drop a bits) (omega arith) in
    number-take b (drop a bits) rest ∙ rw (number-drop a bits (omega arith)) refl

-- a number below 2 ^ b meets the low part alone, and a multiple of 2 ^ a the high part alone
xor-low_part : (b n high low i : ℕ) → n ≡ high * 2 ^ b + low → low < 2 ^ b → i < 2 ^ b → bit_xor n i ≡ high * 2 ^ b + bit_xor low i
xor-low_part b n high low i is low_small i_small =
    let e : i ≡ 0 * 2 ^ b + i = omega arith in
    rw is (ap (λ m. bit_xor (high * 2 ^ b + low) m) e ∙ xor_block b high 0 low i low_small i_small ∙ ap (λ h. h * 2 ^ b + bit_xor low i) (xor_zero_r high))

xor-high_part : (a n high low i : ℕ) → n ≡ high * 2 ^ a + low → low < 2 ^ a → bit_xor n (i * 2 ^ a) ≡ bit_xor high i * 2 ^ a + low
xor-high_part a n high low i is small =
    let e : i * 2 ^ a ≡ i * 2 ^ a + 0 = omega arith in
    rw is (ap (λ m. bit_xor (high * 2 ^ a + low) m) e ∙ xor_block a high i low 0 small (pow_pos a) ∙ ap (λ l. bit_xor high i * 2 ^ a + l) (xor_zero_r low))

-- an XOR with a number of b bits at place a
pub number-xor_stretch : (a b i : ℕ) (ys bits : List Bool) → length ys ≡ b → a + b ≤ length bits → i < 2 ^ b
    → number ys ≡ bit_xor (number (take b (drop a bits))) i
    → number (with_stretch a ys bits) ≡ bit_xor (number bits) (i * 2 ^ a)
unfolding with_stretch
number-xor_stretch a b i ys bits long within small shown =
    let low : a ≤ length bits = omega arith in
    let rest : b ≤ length (drop a bits) = rw (length-drop a bits) (omega arith) in
    let count : length (take a bits) ≡ a = length-take-le a bits low in
    let number_left : number (take a bits ++ (ys ++ drop (a + b) bits)) ≡ number (take a bits) + 2 ^ a * (number ys + 2 ^ b * number (drop (a + b) bits)) =
    rw (number-append (take a bits) (ys ++ drop (a + b) bits), count, number-append ys (drop (a + b) bits), long) refl in
    let high : drop b (drop a bits) ≡ drop (a + b) bits = drop-drop b a bits in
    let inner : bit_xor (number (drop a bits)) i ≡ number (drop (a + b) bits) * 2 ^ b + number ys =
    xor-low_part b (number (drop a bits)) _ _ i (rw high at (number-split b (drop a bits) rest)) (number_take-lt b (drop a bits) rest) small
    ∙ rw shown refl in
    let outer : bit_xor (number bits) (i * 2 ^ a) ≡ bit_xor (number (drop a bits)) i * 2 ^ a + number (take a bits) =
    xor-high_part a (number bits) _ _ i (number-split a bits low) (number_take-lt a bits low) in
    rw (long, number_left, outer, inner) (omega arith)
