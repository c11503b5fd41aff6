-- Bytes as lines of one length, and lines end to end.
use Rattle.std.proofs.Common.{◌≡◌, ℕ, zero, suc, ◌+◌, ◌*◌, ◌<◌, ◌≤◌, List, [], ◌∷◌, ◌++◌, length, take, drop, get_or, refl, sym, ap, ap₂, ◌∙◌, arith, length-drop, take-append-drop}
use Rattle.std.proofs.Math.Nat.{mul-le-mul_right}
use Rattle.std.specs.List.{All, concat}
use Rattle.std.proofs.lemmas.List.{take_at, drop_at, drop-drop, length-take-le}
use Rattle.mask_keys.specs.Lines.{AreKeyLines, lines_of}

pub length-lines_of : (count n : ℕ) (bytes : List ℕ) → length (lines_of count n bytes) ≡ count
length-lines_of zero n bytes = refl
length-lines_of (suc count) n bytes = ap suc (length-lines_of count n (drop n bytes))

-- line i begins i · n bytes in
pub get_or-lines_of : (count n : ℕ) (bytes : List ℕ) (i : ℕ) (d : List ℕ) → i < count → get_or (lines_of count n bytes) i d ≡ take n (drop (i * n) bytes)
get_or-lines_of zero n bytes i d lt = absurd (omega arith)
get_or-lines_of (suc count) n bytes zero d lt = let none : 0 * n ≡ 0 = omega arith in rw none refl
get_or-lines_of (suc count) n bytes (suc i) d lt =
    get_or-lines_of count n (drop n bytes) i d (omega arith) ∙ ap (take n) (drop-drop (i * n) n bytes ∙ ap (λ (k : ℕ). drop k bytes) (omega arith))

-- all lines together are the bytes, where there are as many
pub concat-lines_of : (count n : ℕ) (bytes : List ℕ) → length bytes ≡ count * n → concat (lines_of count n bytes) ≡ bytes
concat-lines_of zero n [] all = refl
concat-lines_of zero n (b ∷ bytes) all = absurd (omega arith)
concat-lines_of (suc count) n bytes all =
    ap (λ (xs : List ℕ). take n bytes ++ xs) (concat-lines_of count n (drop n bytes) (omega (arith, length-drop n bytes)))
    ∙ take-append-drop n bytes

-- lines of n bytes are cut where they were joined
pub lines_of-concat : (n : ℕ) (lines : List (List ℕ)) → All (λ (line : List ℕ). length line ≡ n) lines → lines_of (length lines) n (concat lines) ≡ lines
lines_of-concat n [] equal = refl
lines_of-concat n (line ∷ lines) equal =
    let first : length line ≡ n = equal 0 [] (omega arith) in
    ap₂ (λ (xs : List ℕ) (ys : List (List ℕ)). xs ∷ ys) (take_at line (concat lines) n first)
    (ap (lines_of (length lines) n) (drop_at line (concat lines) n first) ∙ lines_of-concat n lines (λ k d lt. equal (suc k) d (omega arith)))

-- a line of so many is as long as it has to be
pub length-line : (count n : ℕ) (bytes : List ℕ) (i : ℕ) (d : List ℕ) → length bytes ≡ count * n → i < count → length (get_or (lines_of count n bytes) i d) ≡ n
length-line zero n bytes i d all lt = absurd (omega arith)
length-line (suc count) n bytes zero d all lt = length-take-le n bytes (omega arith)
length-line (suc count) n bytes (suc i) d all lt = length-line count n (drop n bytes) i d (omega (arith, length-drop n bytes)) (omega arith)

pub are_key_lines : (count n : ℕ) (bytes : List ℕ) → 1 ≤ count → count ≤ 8 → 1 ≤ n → n ≤ 64 → length bytes ≡ count * n → AreKeyLines (lines_of count n bytes)
are_key_lines count n bytes some few filled short all =
    let many = length-lines_of count n bytes in
    let first = length-line count n bytes 0 [] all (omega arith) in
    record {
      some = omega arith;
      few = omega arith;
      filled = omega arith;
      short = omega arith;
      equal = λ k d lt. length-line count n bytes k d all (omega arith) ∙ sym first;
    }

-- where line i ends
pub line_end : (count n i : ℕ) → i < count → i * n + n ≤ count * n
line_end count n i lt = let more = mul-le-mul_right n lt in omega arith
