-- The last block of a message as Chaskey takes it.
use Rattle.std.proofs.Common.{◌≡◌, ℕ, suc, ◌+◌, ◌-◌, ◌*◌, ◌/◌, ◌≤◌, ◌==◌, Bool, true, false, if◌then◌else◌, List, [], ◌∷◌, ◌++◌, length, replicate, refl, ap, ap₂, sym, ◌∙◌, arith, length-append, length-drop}
use Rattle.std.proofs.lemmas.Bool.{eqb-true, eqb-false}
use Rattle.std.proofs.lemmas.List.{length-replicate}
use Rattle.mask_chaskey.specs.declared.doubling.End.{End}
use Rattle.mask_chaskey.specs.declared.doubling.End.TheVariants.{Whole, Short}
use Rattle.mask_chaskey.specs.Chaskey.{blocks_before, end_of, last_bytes, padded}
use Rattle.mask_macs.proofs.Pieces.{IsLast, count-last, last-is, length-last}

-- BEHIND WHOLE BLOCKS

pub blocks_before-last : (front piece : List ℕ) → IsLast 16 front piece → blocks_before (front ++ piece) ≡ length front / 16
unfolding blocks_before
blocks_before-last front piece is = count-last 16 (omega arith) front piece is

pub last_bytes-last : (front piece : List ℕ) → IsLast 16 front piece → last_bytes (front ++ piece) ≡ piece
unfolding last_bytes blocks_before
last_bytes-last front piece is = last-is 16 (omega arith) front piece is

-- a piece alone
pub last_bytes-alone : (piece : List ℕ) → length piece ≤ 16 → last_bytes piece ≡ piece
last_bytes-alone piece few = last_bytes-last [] piece (record { whole = refl; few = few; some = λ some. absurd (omega arith) })

-- a message ends as its last piece
pub end_of-last : (front piece : List ℕ) → IsLast 16 front piece → end_of (front ++ piece) ≡ end_of piece
unfolding end_of
end_of-last front piece is =
    ap (λ (bytes : List ℕ). if length bytes == 16 then Whole else Short)
    (last_bytes-last front piece is ∙ sym (last_bytes-alone piece is.few))

-- ITS LENGTH

length-last_bytes : (message : List ℕ) → length (last_bytes message) ≤ 16
unfolding last_bytes blocks_before
length-last_bytes message = length-last 16 (omega arith) message

-- padded it has sixteen bytes
padded_is_long : (bytes : List ℕ) → length bytes ≤ 16 → length (padded (if length bytes == 16 then Whole else Short) bytes) ≡ 16
unfolding padded
padded_is_long bytes few = go (length bytes == 16) refl
  where
    go : (whole : Bool) → (length bytes == 16) ≡ whole → length (padded (if whole then Whole else Short) bytes) ≡ 16
    go true is = eqb-true (length bytes) 16 is
    go false is =
        let ne : length bytes ≡ 16 → ⊥ = eqb-false (length bytes) 16 is in
        omega (arith, length-append bytes (1 ∷ replicate (15 - length bytes) 0), length-replicate {A = ℕ} (15 - length bytes) 0)

pub length-padded : (message : List ℕ) → length (padded (end_of message) (last_bytes message)) ≡ 16
unfolding end_of
length-padded message = padded_is_long (last_bytes message) (length-last_bytes message)

pub length-padded_alone : (piece : List ℕ) → length piece ≤ 16 → length (padded (end_of piece) piece) ≡ 16
length-padded_alone piece few =
    ap (λ (bytes : List ℕ). length (padded (end_of piece) bytes)) (sym (last_bytes-alone piece few)) ∙ length-padded piece

-- AS MANY BYTES

-- messages of one length end alike
pub end_of-alike : (piece other : List ℕ) → length piece ≡ length other → end_of piece ≡ end_of other
unfolding end_of last_bytes blocks_before
end_of-alike piece other e =
    ap (λ (n : ℕ). if n == 16 then Whole else Short)
    (length-drop (16 * ((length piece - 1) / 16)) piece
    ∙ ap (λ (n : ℕ). n - 16 * ((n - 1) / 16)) e
    ∙ sym (length-drop (16 * ((length other - 1) / 16)) other))

pub padded-alike : (end : End) (piece other : List ℕ) → length piece ≡ length other →
    length (padded end piece) ≡ length (padded end other)
unfolding padded
padded-alike Whole piece other e = e
padded-alike Short piece other e =
    length-append piece (1 ∷ replicate (15 - length piece) 0)
    ∙ ap₂ (λ (a b : ℕ). a + b) e
    (ap suc (length-replicate {A = ℕ} (15 - length piece) 0 ∙ ap (λ (n : ℕ). 15 - n) e ∙ sym (length-replicate {A = ℕ} (15 - length other) 0)))
    ∙ sym (length-append other (1 ∷ replicate (15 - length other) 0))
