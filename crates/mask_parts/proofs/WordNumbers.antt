-- The number of a word's bits: of an XOR, of a rotation, of a constant.
use Rattle.std.proofs.Common.{◌≡◌, ℕ, ◌+◌, ◌-◌, ◌*◌, ◌/◌, ◌%◌, ◌^◌, ◌<◌, Bool, true, false, List, [], ◌∷◌, ◌++◌, length, map, take, drop, refl, sym, ap, ap₂, ◌∙◌, arith, lit<, if◌then◌else◌, bit_xor}
use Rattle.std.specs.List.{range_with_len}
use Rattle.std.proofs.lemmas.Nat.{div-mul-add, mod-mul-add, shl_below, xor_block, pow-add}
use Rattle.std.proofs.lemmas.List.{length-map, length-take-le, length-drop, take-append-drop, map-append}
use Rattle.std.proofs.Math.Nat.{mod-eq_of_lt}
use Rattle.mask_bits.specs.Reading.{bit, number, lowest}
use Rattle.mask_bits.proofs.Numbers.{number-append, number-lt, number-lowest}
use Rattle.mask_circuit.specs.Value.{xor}
use Rattle.mask_parts.specs.Words32.{rotated32, rol32, constant32}

-- XOR

-- one digit more at the low end
xor-digit : (m n r s : ℕ) → r < 2 → s < 2 → bit_xor (r + 2 * m) (s + 2 * n) ≡ bit_xor r s + 2 * bit_xor m n
xor-digit m n r s r_small s_small =
    let left : r + 2 * m ≡ m * 2 ^ 1 + r = omega arith in
    let right : s + 2 * n ≡ n * 2 ^ 1 + s = omega arith in
    rw (left, right, xor_block 1 m n r s r_small s_small) (omega arith)

-- one bit more
pub xor-low : (x y : Bool) (m n : ℕ) → bit_xor ((if x then 1 else 0) + 2 * m) ((if y then 1 else 0) + 2 * n) ≡ (if xor x y then 1 else 0) + 2 * bit_xor m n
xor-low true true m n = xor-digit m n 1 1 (lit< tt) (lit< tt)
xor-low true false m n = xor-digit m n 1 0 (lit< tt) (lit< tt)
xor-low false true m n = xor-digit m n 0 1 (lit< tt) (lit< tt)
xor-low false false m n = xor-digit m n 0 0 (lit< tt) (lit< tt)

-- the XOR of bits, place by place
pub number-xor : (f g : ℕ → Bool) (ks : List ℕ) → number (map (λ k. xor (f k) (g k)) ks) ≡ bit_xor (number (map f ks)) (number (map g ks))
number-xor f g [] = refl
number-xor f g (k ∷ ks) = rw (number-xor f g ks) (sym (xor-low (f k) (g k) (number (map f ks)) (number (map g ks))))

-- ROTATION

-- the bits after the lowest a come first
number-turned : (a b : ℕ) (low high : List Bool) → length low ≡ a → length high ≡ b →
    number (high ++ low) ≡ number (low ++ high) * 2 ^ b % 2 ^ (a + b) + number (low ++ high) / 2 ^ a
number-turned a b low high low_long high_long =
    let low_small : number low < 2 ^ a = rw low_long at (number-lt low) in
    let whole : number (low ++ high) ≡ number high * 2 ^ a + number low = number-append low high ∙ rw low_long (omega arith) in
    let quotient : number (low ++ high) / 2 ^ a ≡ number high = rw whole (div-mul-add (number high) (2 ^ a) (number low) low_small) in
    let moved : number (low ++ high) * 2 ^ b ≡ number high * 2 ^ (a + b) + number low * 2 ^ b = rw (whole, pow-add 2 a b) (omega arith) in
    let small : number low * 2 ^ b < 2 ^ (a + b) = shl_below (number low) a b low_small in
    let rest : number (low ++ high) * 2 ^ b % 2 ^ (a + b) ≡ number low * 2 ^ b = rw moved (mod-mul-add (number high) (2 ^ (a + b)) (number low * 2 ^ b) small) in
    number-append high low ∙ rw (high_long, quotient, rest) (omega arith)

pub number-rotated32 : (f : ℕ → Bool) (k : ℕ) (xs : List ℕ) → k < 32 → length xs ≡ 32 → number (map f (rotated32 k xs)) ≡ rol32 k (number (map f xs))
unfolding rotated32
number-rotated32 f k xs small long =
    let low : length (map f (take (32 - k) xs)) ≡ 32 - k = length-map (take (32 - k) xs) f ∙ length-take-le (32 - k) xs (omega arith) in
    let high : length (map f (drop (32 - k) xs)) ≡ k = length-map (drop (32 - k) xs) f ∙ length-drop (32 - k) xs ∙ omega arith in
    let width : 32 - k + k ≡ 32 = omega arith in
    let whole : map f (take (32 - k) xs) ++ map f (drop (32 - k) xs) ≡ map f xs =
    sym (map-append f (take (32 - k) xs) (drop (32 - k) xs)) ∙ ap (map f) (take-append-drop (32 - k) xs) in
    ap number (map-append f (drop (32 - k) xs) (take (32 - k) xs))
    ∙ (rw (width, whole) at (number-turned (32 - k) k (map f (take (32 - k) xs)) (map f (drop (32 - k) xs)) low high))

-- CONSTANTS

read_constant : (f : ℕ → Bool) (nought one : ℕ) (bits : List Bool) → f nought ≡ false → f one ≡ true → map f (map (λ b. if b then one else nought) bits) ≡ bits
read_constant f nought one [] is_nought is_one = refl
read_constant f nought one (true ∷ bits) is_nought is_one = ap₂ ◌∷◌ is_one (read_constant f nought one bits is_nought is_one)
read_constant f nought one (false ∷ bits) is_nought is_one = ap₂ ◌∷◌ is_nought (read_constant f nought one bits is_nought is_one)

pub number-constant32 : (f : ℕ → Bool) (nought one word : ℕ) → word < 2 ^ 32 → f nought ≡ false → f one ≡ true → number (map f (constant32 nought one word)) ≡ word
unfolding constant32
number-constant32 f nought one word small is_nought is_one =
    ap number (read_constant f nought one (lowest 32 word) is_nought is_one) ∙ number-lowest 32 word ∙ mod-eq_of_lt small

-- the bits one by one
pub constant32-bits : (nought one word : ℕ) → map (λ k. if bit k word then one else nought) (range_with_len 0 32) ≡ constant32 nought one word
unfolding constant32
constant32-bits nought one word = refl
