-- The bits of a number's bytes, as of a tag.
use Rattle.std.proofs.Common.{◌≡◌, ℕ, zero, suc, ◌*◌, ◌/◌, ◌%◌, ◌^◌, length, sym, ap, ◌∙◌, arith, length-append}
use Rattle.std.proofs.Math.Arith.{mod-mul}
use Rattle.std.proofs.Math.Nat.{mod-mod}
use Rattle.std.proofs.lemmas.Nat.{pow_pos, pow-add}
use Rattle.mask_bits.specs.Reading.{low, lowest, number}
use Rattle.mask_bits.proofs.Numbers.{length-lowest, lowest-of, number-append, number-lowest}
use Rattle.mask_chaskey.specs.Chaskey.{bytes_of}

length-low-bytes_of : (n a : ℕ) → length (low (bytes_of n a)) ≡ 8 * n
unfolding bytes_of
length-low-bytes_of zero a = omega arith
length-low-bytes_of (suc n) a = rw (length-append (lowest 8 (a % 256)) (low (bytes_of n (a / 256))), length-lowest 8 (a % 256), length-low-bytes_of n (a / 256)) (omega arith)

number-bytes_of : (n a : ℕ) → number (low (bytes_of n a)) ≡ a % 2 ^ (8 * n)
unfolding bytes_of
number-bytes_of zero a = omega arith
number-bytes_of (suc n) a =
    let power : 2 ^ (8 * suc n) ≡ 2 ^ (8 * n) * 2 ^ 8 = ap (λ (k : ℕ). 2 ^ k) (omega arith) ∙ pow-add 2 (8 * n) 8 in
    let first : number (lowest 8 (a % 256)) ≡ a % 2 ^ 8 = number-lowest 8 (a % 256) ∙ mod-mod a 256 in
    number-append (lowest 8 (a % 256)) (low (bytes_of n (a / 256)))
    ∙ rw (first, length-lowest 8 (a % 256), number-bytes_of n (a / 256), power, mod-mul a (pow_pos (8 * n)) (pow_pos 8)) (omega arith)

-- read low first, they are the number's lowest bits
pub low-bytes_of : (n a : ℕ) → low (bytes_of n a) ≡ lowest (8 * n) a
low-bytes_of n a =
    sym (lowest-of (low (bytes_of n a)) (a % 2 ^ (8 * n)) (8 * n) (sym (number-bytes_of n a)) (length-low-bytes_of n a))
    ∙ lowest-of (lowest (8 * n) a) (a % 2 ^ (8 * n)) (8 * n) (sym (number-lowest (8 * n) a)) (length-lowest (8 * n) a)
