-- The number that words stand for, and its XOR with another one.
use Rattle.std.proofs.Common.{◌≡◌, ℕ, zero, suc, ◌+◌, ◌*◌, ◌/◌, ◌%◌, ◌^◌, ◌<◌, Bool, List, [], ◌∷◌, length, All, refl, ap, ◌∙◌, arith, bit_xor}
use Rattle.std.proofs.Math.Arith.{mod-mul}
use Rattle.std.proofs.Math.Nat.{mod-eq_of_lt}
use Rattle.std.proofs.lemmas.Nat.{pow_pos, pow-add, div-mul-add, mod-mul-add, xor_block}
use Rattle.std.proofs.lemmas.List.Elements.{All-head, All-tail}
use Rattle.mask_bits.specs.Reading.{number}
use Rattle.mask_bits.proofs.Numbers.{number-lt}
use Rattle.mask_parts.specs.Words32.{words_of, joined}

pub joined-words_of : (n a : ℕ) → joined (words_of n a) ≡ a % 2 ^ (32 * n)
unfolding joined words_of
joined-words_of zero a = omega arith
joined-words_of (suc n) a =
    let power : 2 ^ (32 * suc n) ≡ 2 ^ (32 * n) * 2 ^ 32 = ap (λ (k : ℕ). 2 ^ k) (omega arith) ∙ pow-add 2 (32 * n) 32 in
    rw (joined-words_of n (a / 2 ^ 32), power, mod-mul a (pow_pos (32 * n)) (pow_pos 32)) (omega arith)

-- so a number of so many bits is joined of its words
pub joined-bits : (n : ℕ) (bits : List Bool) → length bits ≡ 32 * n → joined (words_of n (number bits)) ≡ number bits
joined-bits n bits long = joined-words_of n (number bits) ∙ mod-eq_of_lt (rw long at (number-lt bits))

-- words are those of the number that they make
pub words_of-joined : (ws : List ℕ) → All (λ w. w < 2 ^ 32) ws → words_of (length ws) (joined ws) ≡ ws
unfolding words_of joined
words_of-joined [] small = refl
words_of-joined (w ∷ ws) small =
    let low : w < 2 ^ 32 = All-head (λ v. v < 2 ^ 32) w ws small in
    let whole : w + 2 ^ 32 * joined ws ≡ joined ws * 2 ^ 32 + w = omega arith in
    rw (whole, mod-mul-add (joined ws) (2 ^ 32) w low, div-mul-add (joined ws) (2 ^ 32) w low)
    (ap (λ (ks : List ℕ). w ∷ ks) (words_of-joined ws (All-tail (λ v. v < 2 ^ 32) w ws small)))

-- the XOR of numbers of words is that of the words
pub xor-joined : (a b m n : ℕ) → a < 2 ^ 32 → b < 2 ^ 32 → bit_xor (a + 2 ^ 32 * m) (b + 2 ^ 32 * n) ≡ bit_xor a b + 2 ^ 32 * bit_xor m n
xor-joined a b m n a_small b_small =
    let left : a + 2 ^ 32 * m ≡ m * 2 ^ 32 + a = omega arith in
    let right : b + 2 ^ 32 * n ≡ n * 2 ^ 32 + b = omega arith in
    rw (left, right, xor_block 32 m n a b a_small b_small) (omega arith)
