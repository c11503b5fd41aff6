-- The bits of a number's bytes, as of a counter, and of its first bytes, as of a tag.
use Rattle.std.proofs.Common.{◌≡◌, ℕ, zero, suc, ◌+◌, ◌-◌, ◌*◌, ◌/◌, ◌%◌, ◌^◌, ◌<◌, ◌≤◌, false, List, [], ◌∷◌, ◌++◌, length, take, drop, get_or, reverse, refl, sym, ap, ap₂, ◌∙◌, arith, length-append}
use Rattle.std.proofs.Math.Arith.{mod-mul}
use Rattle.std.proofs.Math.Nat.{mod-mod}
use Rattle.std.proofs.Math.Seq.{drop-append_seam}
use Rattle.std.proofs.lemmas.List.{reverse-append, length-reverse, length-drop, take-append-drop, get_or-reverse, get_or-take}
use Rattle.std.proofs.lemmas.Nat.{pow_pos, pow-add}
use Rattle.mask_bits.specs.Reading.{bit, low, high, lowest, number}
use Rattle.mask_bits.proofs.Bytes.{low-append, length-low, low-place}
use Rattle.mask_bits.proofs.Numbers.{length-lowest, lowest-of, number-append, number-lowest}
use Rattle.mask_lightmac.specs.LightMac.{bytes_of}

pub length-bytes_of : (n a : ℕ) → length (bytes_of n a) ≡ n
unfolding bytes_of
length-bytes_of zero a = refl
length-bytes_of (suc n) a = rw (length-append (bytes_of n (a / 256)) (a % 256 ∷ []), length-bytes_of n (a / 256)) (omega arith)

-- the bytes that come first have the highest bits
pub high-append : (xs ys : List ℕ) → high (xs ++ ys) ≡ high ys ++ high xs
high-append xs ys = ap low (reverse-append xs ys) ∙ low-append (reverse ys) (reverse xs)

pub length-high : (bytes : List ℕ) → length (high bytes) ≡ 8 * length bytes
length-high bytes = length-low (reverse bytes) ∙ ap (λ n. 8 * n) (length-reverse bytes)

number-bytes_of : (n a : ℕ) → number (high (bytes_of n a)) ≡ a % 2 ^ (8 * n)
unfolding bytes_of
number-bytes_of zero a = omega arith
number-bytes_of (suc n) a =
    let power : 2 ^ (8 * suc n) ≡ 2 ^ (8 * n) * 2 ^ 8 = ap (λ (k : ℕ). 2 ^ k) (omega arith) ∙ pow-add 2 (8 * n) 8 in
    let first : number (lowest 8 (a % 256)) ≡ a % 2 ^ 8 = number-lowest 8 (a % 256) ∙ mod-mod a 256 in
    ap number (high-append (bytes_of n (a / 256)) (a % 256 ∷ []))
    ∙ number-append (lowest 8 (a % 256)) (high (bytes_of n (a / 256)))
    ∙ rw (first, length-lowest 8 (a % 256), number-bytes_of n (a / 256), power, mod-mul a (pow_pos (8 * n)) (pow_pos 8)) (omega arith)

-- read high first, they are the number's lowest bits
pub high-bytes_of : (n a : ℕ) → high (bytes_of n a) ≡ lowest (8 * n) a
high-bytes_of n a =
    let long : length (high (bytes_of n a)) ≡ 8 * n = length-high (bytes_of n a) ∙ ap (λ k. 8 * k) (length-bytes_of n a) in
    sym (lowest-of (high (bytes_of n a)) (a % 2 ^ (8 * n)) (8 * n) (sym (number-bytes_of n a)) long)
    ∙ lowest-of (lowest (8 * n) a) (a % 2 ^ (8 * n)) (8 * n) (sym (number-lowest (8 * n) a)) (length-lowest (8 * n) a)

-- behind a piece comes its counter
pub high-counted : (s k : ℕ) (piece : List ℕ) → high (bytes_of s k ++ piece) ≡ high piece ++ lowest (8 * s) k
high-counted s k piece = high-append (bytes_of s k) piece ∙ ap (λ bits. high piece ++ bits) (high-bytes_of s k)

-- the first t of eight bytes, as of a tag, are the highest bits of 64
pub high-tag : (t a : ℕ) → high (take t (bytes_of 8 a)) ≡ drop (8 * (8 - t)) (lowest 64 a)
high-tag t a =
    let bytes = bytes_of 8 a in
    let rest_long : length (high (drop t bytes)) ≡ 8 * (8 - t) =
    length-high (drop t bytes) ∙ ap (λ n. 8 * n) (length-drop t bytes ∙ ap (λ n. n - t) (length-bytes_of 8 a)) in
    let split : lowest 64 a ≡ high (drop t bytes) ++ high (take t bytes) =
    sym (high-bytes_of 8 a) ∙ ap high (sym (take-append-drop t bytes)) ∙ high-append (take t bytes) (drop t bytes) in
    sym (ap₂ drop (sym rest_long) split ∙ drop-append_seam (high (drop t bytes)) (high (take t bytes)))

-- so bit i of byte k is this one of 64
pub bit-tag : (t a k i : ℕ) → t ≤ 8 → k < t → i < 8 → bit i (get_or (take t (bytes_of 8 a)) k 0) ≡ get_or (lowest 64 a) (8 * (7 - k) + i) false
bit-tag t a k i few inside low_bit =
    let bytes = bytes_of 8 a in
    let long = length-bytes_of 8 a in
    let place : get_or (reverse bytes) (7 - k) 0 ≡ get_or bytes k 0 =
    get_or-reverse bytes (7 - k) 0 (omega arith) ∙ ap (λ n. get_or bytes n 0) (omega arith) in
    let read = low-place (reverse bytes) (7 - k) i (rw (length-reverse bytes) (omega arith)) low_bit in
    ap (bit i) (get_or-take t bytes k 0 inside ∙ sym place) ∙ sym read ∙ ap (λ bits. get_or bits (8 * (7 - k) + i) false) (high-bytes_of 8 a)
