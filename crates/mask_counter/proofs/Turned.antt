-- Blocks as rows of bits, and the rows turned.
use Rattle.std.proofs.Common.{◌≡◌, ℕ, suc, ◌+◌, ◌-◌, ◌*◌, ◌%◌, ◌^◌, ◌<◌, ◌≤◌, Bool, false, List, ◌∷◌, ◌++◌, length, take, drop, get_or, refl, sym, ap, ap₂, ◌∙◌, arith, length-drop}
use Rattle.std.proofs.Math.Nat.{mod-eq_of_lt}
use Rattle.std.proofs.Math.Pow.{pow_mono}
use Rattle.std.proofs.Math.Seq.{take-add}
use Rattle.std.proofs.lemmas.List.{ext_get_or, get_or-map, length-map, length-reverse, length-take, length-take-le, drop_more, map-append, take_all}
use borrow.Rule.Slice.PartMut.{put_mid}
use Rattle.mask_eval.proofs.Lists.{part_front}
use Rattle.mask_bits.specs.Reading.{bit, low, lowest, number}
use Rattle.mask_bits.specs.Lanes.{lane}
use Rattle.mask_bits.specs.Square.{IsTransposed}
use Rattle.mask_bits.proofs.Bytes.{length-low, low-append}
use Rattle.mask_bits.proofs.Numbers.{bit-number, number-append, number-lowest, number-lt, length-lowest}
use Rattle.mask_modes.specs.Steps.{block_at}
use Rattle.mask_modes.proofs.Blocks.{length-block_at}
use Rattle.mask_counter.specs.declared.words.BitOrder.{BitOrder}
use Rattle.mask_counter.specs.declared.words.BitOrder.TheVariants.{LowFirst, HighFirst}
use Rattle.mask_counter.specs.Blocks.{ordered, reading}

pub length-ordered : (order : BitOrder) (b : ℕ) (bytes : List ℕ) (l : ℕ) → length (ordered order (block_at b bytes l)) ≡ b
length-ordered LowFirst b bytes l = length-block_at b bytes l
length-ordered HighFirst b bytes l = length-reverse (block_at b bytes l) ∙ length-block_at b bytes l

pub reading_is : (order : BitOrder) (bytes : List ℕ) → reading order bytes ≡ low (ordered order bytes)
reading_is LowFirst bytes = refl
reading_is HighFirst bytes = refl

-- the number of one byte more, at the low end
number-low_cons : (byte : ℕ) (bytes : List ℕ) → byte < 256 → number (low (byte ∷ bytes)) ≡ number (low bytes) * 256 + byte
number-low_cons byte bytes small =
    let first : byte % 2 ^ 8 ≡ byte = mod-eq_of_lt small in
    number-append (lowest 8 byte) (low bytes) ∙ rw (number-lowest 8 byte, length-lowest 8 byte, first) (omega arith)

-- a number of at most eight bytes fits in 64 bits
eight_bytes : (bytes : List ℕ) → length bytes ≤ 8 → number (low bytes) < 2 ^ 64
eight_bytes bytes few =
    let bound : number (low bytes) < 2 ^ (8 * length bytes) = rw (length-low bytes) at (number-lt (low bytes)) in
    let top : 2 ^ (8 * length bytes) ≤ 2 ^ 64 = pow_mono {i = 8 * length bytes} {j = 64} (omega arith) in omega arith

-- one byte more below the others
pub next_byte : (xs : List ℕ) (at k byte : ℕ) → at < length xs → byte ≡ get_or xs at 0 → byte < 256 → k ≤ 7 →
    (number (low (take k (drop (at + 1) xs))) * 256 + byte ≡ number (low (take (suc k) (drop at xs)))) × (number (low (take (suc k) (drop at xs))) < 2 ^ 64)
next_byte xs at k byte within is small few =
    let front : drop at xs ≡ byte ∷ drop (at + 1) xs = drop_more xs at 0 within ∙ ap (λ (x : ℕ). x ∷ drop (at + 1) xs) (sym is) in (
      sym (number-low_cons byte (take k (drop (at + 1) xs)) small) ∙ ap (λ (l : List ℕ). number (low (take (suc k) l))) (sym front),
      eight_bytes (take (suc k) (drop at xs)) (omega (arith, length-take (suc k) (drop at xs))),
    )

-- a row of bits, turned
pub turned : (rows columns : List ℕ) (l : ℕ) (bs : List Bool) → IsTransposed rows columns → length columns ≡ 64 → length bs ≡ 64 → l < 64 →
    get_or rows l 0 ≡ number bs → lane l columns ≡ bs
turned rows columns l bs is many long lt row =
    ext_get_or false (lane l columns) bs (length-map columns (bit l) ∙ many ∙ sym long) (λ k hk.
    let here : k < 64 = omega (arith, length-map columns (bit l)) in
    get_or-map (bit l) columns k 0 false (omega arith) ∙ is l k lt here ∙ ap (bit k) row ∙ bit-number bs k)

-- eight bytes have 64 bits
pub row_bits : (xs : List ℕ) (first : ℕ) → first + 8 ≤ length xs → length (low (take 8 (drop first xs))) ≡ 64
row_bits xs first within =
    length-low (take 8 (drop first xs)) ∙ ap (λ (n : ℕ). 8 * n) (length-take-le 8 (drop first xs) (omega (arith, length-drop first xs)))

-- eight bytes more
pub more_bytes : (xs : List ℕ) (part : ℕ) → low (take (8 * part) xs) ++ low (take 8 (drop (8 * part) xs)) ≡ low (take (8 * (part + 1)) xs)
more_bytes xs part =
    let e : 8 * part + 8 ≡ 8 * (part + 1) = omega arith in
    sym (low-append (take (8 * part) xs) (take 8 (drop (8 * part) xs))) ∙ ap low (sym (take-add (8 * part) 8 xs) ∙ ap (λ (n : ℕ). take n xs) e)

-- the same in a row of eight bytes from `first` on, of which k are in it
pub row_step : (xs : List ℕ) (first k so_far byte : ℕ) → first + 8 ≤ length xs → k < 8 → so_far ≡ number (low (take k (drop (first + 8 - k) xs))) →
    byte ≡ get_or xs (first + 7 - k) 0 → byte < 256 →
    (so_far * 256 + byte ≡ number (low (take (k + 1) (drop (first + 8 - (k + 1)) xs)))) × (so_far * 256 + byte < 2 ^ 64)
row_step xs first k so_far byte within few is byte_is small =
    let after : first + 8 - k ≡ first + 7 - k + 1 = omega arith in
    let here : first + 7 - k ≡ first + 8 - (k + 1) = omega arith in
    let more : suc k ≡ k + 1 = omega arith in
    let both = next_byte xs (first + 7 - k) k byte (omega arith) byte_is small (omega arith) in
    let start : so_far * 256 + byte ≡ number (low (take (suc k) (drop (first + 7 - k) xs))) =
    ap (λ (n : ℕ). n * 256 + byte) (is ∙ ap (λ (n : ℕ). number (low (take k (drop n xs)))) after) ∙ both.0 in
    (start ∙ ap₂ (λ (n p : ℕ). number (low (take n (drop p xs)))) more here, (let bound = both.1 in omega arith))

-- columns behind those that are there
pub columns_more : (xs words columns : List ℕ) (part m count : ℕ) → count ≡ 64 → length columns ≡ count → 64 * part + count ≤ length words →
    lane m (take (64 * part) words) ≡ low (take (8 * part) xs) → lane m columns ≡ low (take 8 (drop (8 * part) xs)) →
    lane m (take (64 * (part + 1)) (put_mid (64 * part) count words columns)) ≡ low (take (8 * (part + 1)) xs)
columns_more xs words columns part m count few many within before here =
    ap (lane m) (part_front (64 * part) count (64 * (part + 1)) words columns (omega arith) within many)
    ∙ map-append (bit m) (take (64 * part) words) columns
    ∙ ap₂ (λ (front back : List Bool). front ++ back) before here ∙ more_bytes xs part

pub row_done : (xs : List ℕ) (first k so_far : ℕ) → k ≡ 8 → so_far ≡ number (low (take k (drop (first + 8 - k) xs))) →
    so_far ≡ number (low (take 8 (drop first xs)))
row_done xs first k so_far e is =
    let here : first + 8 - k ≡ first = omega arith in is ∙ ap₂ (λ (n p : ℕ). number (low (take n (drop p xs)))) e here

-- the columns of all bytes
pub columns_all : (order : BitOrder) (b : ℕ) (bytes : List ℕ) (m : ℕ) (words : List ℕ) (part : ℕ) → length words ≡ 64 * part → 8 * part ≡ b →
    lane m (take (64 * part) words) ≡ low (take (8 * part) (ordered order (block_at b bytes m))) → lane m words ≡ reading order (block_at b bytes m)
columns_all order b bytes m words part many whole is =
    let long = length-ordered order b bytes m in
    ap (lane m) (sym (take_all (64 * part) words (omega arith))) ∙ is
    ∙ ap low (take_all (8 * part) (ordered order (block_at b bytes m)) (omega arith)) ∙ sym (reading_is order (block_at b bytes m))
