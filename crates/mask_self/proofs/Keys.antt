-- Key lines and numbers of bytes.
use Rattle.std.proofs.Common.{◌≡◌, ℕ, ◌+◌, ◌*◌, ◌/◌, ◌^◌, ◌<◌, ◌≤◌, List, [], ◌∷◌, length, take, get_or, All, ap, ap₂, sym, ◌∙◌, subst, arith, length-append}
use Rattle.std.proofs.Math.Nat.{pow-le-pow_right, mul-div_cancel, mul-div_cancel_left}
use Rattle.std.proofs.lemmas.List.{get_or_default, take_more, length-take-le}
use Rattle.std.proofs.lemmas.List.Elements.{All-take, All-tail}
use Rattle.std.proofs.lemmas.List.Sums.{fold-append}
use Rattle.std.specs.List.{concat}
use Rattle.mask_bits.specs.Reading.{AreBytes, big_endian, high}
use Rattle.mask_bits.proofs.Numbers.{number-lt}
use Rattle.mask_modes.proofs.Readings.{number_of_high, length-high}
use Rattle.mask_keys.specs.Lines.{AreKeyLines, line_length, lines_of}
use Rattle.mask_self.specs.Generator.{bytes_from}
use Rattle.mask_self.proofs.Generating.{length-bytes_from}
use Rattle.mask_keys.proofs.Cutting.{lines_of-concat}

-- NUMBERS

-- one byte more
big_endian-more : (bytes : List ℕ) (k : ℕ) → k < length bytes → 256 * big_endian (take k bytes) + get_or bytes k 0 ≡ big_endian (take (k + 1) bytes)
big_endian-more bytes k lt =
    sym (ap big_endian (take_more bytes k 0 lt) ∙ fold-append (λ (n byte : ℕ). 256 * n + byte) 0 (take k bytes) (get_or bytes k 0 ∷ []))

-- sixteen bytes are a number of 128 bits
pub big_endian_fits : (bytes : List ℕ) → AreBytes bytes → length bytes ≤ 16 → big_endian bytes < 2 ^ 128
big_endian_fits bytes are few =
    let below = number-lt (high bytes) in
    let fits : length (high bytes) ≤ 128 = omega (arith, length-high bytes) in
    let size : 2 ^ length (high bytes) ≤ 2 ^ 128 = pow-le-pow_right (omega arith) fits in
    omega (arith, number_of_high bytes are)

pub big_endian-next : (bytes : List ℕ) (k n byte : ℕ) → ((i : ℕ) → get_or bytes i 0 < 2 ^ 8) → length bytes ≤ 16 → k < length bytes → n ≡ big_endian (take k bytes) → byte ≡ get_or bytes k 0 →
    (256 * n + byte ≡ big_endian (take (k + 1) bytes)) × (256 * n + byte < 2 ^ 128)
big_endian-next bytes k n byte are few lt so_far is =
    let more : 256 * n + byte ≡ big_endian (take (k + 1) bytes) = omega (arith, so_far, is, big_endian-more bytes k lt) in
    let size : length (take (k + 1) bytes) ≡ k + 1 = length-take-le (k + 1) bytes (omega arith) in
    let all : AreBytes bytes = λ i d within. subst (λ (b : ℕ). b < 2 ^ 8) (get_or_default bytes i 0 d within) (are i) in
    (more, omega (arith, big_endian_fits (take (k + 1) bytes) (All-take (λ b. b < 2 ^ 8) (k + 1) bytes all) (omega arith)))

-- LINES

sixteen_each : (count n : ℕ) → 1 ≤ count → n ≡ 16 * count → n / count ≡ 16
sixteen_each count n some is = ap (λ (m : ℕ). m / count) is ∙ mul-div_cancel 16 some

-- lines of one length, end to end
length-concat : (n : ℕ) (lines : List (List ℕ)) → All (λ line. length line ≡ n) lines → length (concat lines) ≡ length lines * n
length-concat n [] equal = omega arith
length-concat n (line ∷ lines) equal =
    let first = equal 0 [] (omega arith) in
    let rest = length-concat n lines (All-tail (λ l. length l ≡ n) line lines equal) in
    omega (arith, length-append line (concat lines))

-- lines that bytes were cut into are so long
cut_long : (count : ℕ) (bytes : List ℕ) (lines : List (List ℕ)) → 1 ≤ count → length bytes ≡ 16 * count → concat lines ≡ bytes → length lines ≡ count → AreKeyLines lines →
    line_length lines ≡ 16
cut_long count bytes lines some size all many shape =
    let n = line_length lines in
    let total : count * n ≡ 16 * count
    = ap (λ (k : ℕ). k * n) (sym many) ∙ sym (length-concat n lines shape.equal) ∙ ap length all ∙ size in
    sym (mul-div_cancel_left n some) ∙ sixteen_each count (count * n) some total

-- the lines are those that the first bytes of a seed are cut into
pub lines_made : (x count n : ℕ) (bytes : List ℕ) (lines : List (List ℕ)) → 1 ≤ count → bytes ≡ bytes_from x 0 n → length bytes ≡ 16 * count → concat lines ≡ bytes →
    length lines ≡ count → AreKeyLines lines → lines ≡ lines_of count 16 (bytes_from x 0 (16 * count))
lines_made x count n bytes lines some are size all many shape =
    let long : n ≡ 16 * count = sym (ap length are ∙ length-bytes_from x 0 n) ∙ size in
    let equal = subst (λ (k : ℕ). All (λ line. length line ≡ k) lines) (cut_long count bytes lines some size all many shape) shape.equal in
    sym (lines_of-concat 16 lines equal)
    ∙ ap₂ (λ (k : ℕ) (bs : List ℕ). lines_of k 16 bs) many (all ∙ are ∙ ap (bytes_from x 0) long)
