-- A buffer that is filled piece by piece.
use Rattle.std.proofs.Common.{◌≡◌, ℕ, ◌+◌, ◌-◌, ◌≤◌, List, ◌++◌, length, take, drop, sym, ap, ◌∙◌, arith, length-append}
use borrow.Rule.Slice.PartMut.{put_mid, post_of}
use Rattle.std.proofs.lemmas.List.{take-append-le, length-take-le}
use Rattle.std.proofs.Math.Seq.{take-append-add}

-- more came behind what had come
pub came_more : (a n k : ℕ) (buf piece : List ℕ) → a ≤ length buf → n ≤ length piece → take (a + n) (put_mid a k buf piece) ≡ take a buf ++ take n piece
came_more a n k buf piece within few =
    let front : length (take a buf) ≡ a = length-take-le a buf within in
    ap (λ (m : ℕ). take (m + n) (take a buf ++ (piece ++ post_of a k buf))) (sym front)
    ∙ take-append-add (take a buf) (piece ++ post_of a k buf) n
    ∙ ap (λ (xs : List ℕ). take a buf ++ xs) (take-append-le n piece (post_of a k buf) few)

-- a piece that is as long as the room behind what had come
pub came_room : (a n : ℕ) (buf piece : List ℕ) → a ≤ length buf → length piece ≡ length (take (length buf - a) (drop a buf)) →
    n ≤ length (take (length buf - a) (drop a buf)) → (n ≤ length piece) × (a + n ≤ length (put_mid a (length buf - a) buf piece))
came_room a n buf piece within long few =
    let front = length-take-le a buf within in
    (omega arith, omega (arith, length-append (take a buf) (piece ++ post_of a (length buf - a) buf), length-append piece (post_of a (length buf - a) buf)))
