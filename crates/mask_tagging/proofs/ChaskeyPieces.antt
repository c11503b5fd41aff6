-- What goes ahead of a piece of Chaskey-12, and how its last block is filled up.
use Rattle.std.proofs.Common.{◌≡◌, ◌⊎◌, inl, inr, ℕ, suc, ◌+◌, ◌-◌, ◌==◌, ◌<◌, ◌≤◌, Bool, true, false, cond, List, [], ◌∷◌, ◌++◌, length, drop, replicate, refl, ap, sym, ◌∙◌, arith, if◌then◌else◌}
use Rattle.std.proofs.Math.ListN.{set}
use Rattle.std.proofs.Math.Nat.{eq-or-lt_of_le}
use Rattle.std.proofs.Math.Seq.{set-append_seam}
use Rattle.std.proofs.lemmas.Bool.{eq-eqb, ne_eqb}
use Rattle.std.proofs.lemmas.List.{drop-replicate}
use Rattle.mask_bits.specs.Reading.{low}
use Rattle.mask_chaskey.specs.declared.doubling.End.{End}
use Rattle.mask_chaskey.specs.declared.doubling.End.TheVariants.{Whole, Short}
use Rattle.mask_chaskey.specs.Chaskey.{end_of, last_bytes, padded}
use Rattle.mask_macs.specs.ChaskeyRuns.{ahead, start_step}
use Rattle.mask_macs.proofs.ChaskeyBlocks.{last_bytes-alone, length-padded_alone}
use Rattle.mask_trace.specs.Steps.{Step}

-- the state is made where there were no bytes
pub start_ahead : (n : ℕ) → n ≡ 0 → ahead n ≡ start_step ∷ []
start_ahead n none = ap ahead none

-- a one and zeros over zeros
pub short_block : (piece : List ℕ) → length piece < 16 → set (piece ++ drop (length piece) (replicate 16 0)) (length piece) 1 ≡ padded Short piece
unfolding padded
short_block piece few =
    let size : 16 - length piece ≡ suc (15 - length piece) = omega arith in
    let rest : drop (length piece) (replicate 16 0) ≡ 0 ∷ replicate (15 - length piece) 0
    = drop-replicate (length piece) 16 0 ∙ ap (λ (n : ℕ). replicate n 0) size in
    ap (λ (zeros : List ℕ). set (piece ++ zeros) (length piece) 1) rest
    ∙ set-append_seam piece 0 (replicate (15 - length piece) 0) 1

-- how a last piece ends
pub whole_end : (piece : List ℕ) → length piece ≡ 16 → end_of piece ≡ Whole
unfolding end_of
whole_end piece all =
    ap (λ (b : Bool). if b then Whole else Short)
    (ap (λ (bytes : List ℕ). length bytes == 16) (last_bytes-alone piece (omega arith)) ∙ eq-eqb (length piece) 16 all)

pub short_end : (piece : List ℕ) → length piece < 16 → end_of piece ≡ Short
unfolding end_of
short_end piece few =
    ap (λ (b : Bool). if b then Whole else Short)
    (ap (λ (bytes : List ℕ). length bytes == 16) (last_bytes-alone piece (omega arith)) ∙ ne_eqb (length piece) 16 (λ same. omega arith))

-- a whole last block is its bytes, and a short one is filled up
pub padded_bytes : (piece : List ℕ) → piece ≡ padded Whole piece
unfolding padded
padded_bytes piece = refl

pub padded_whole : (piece : List ℕ) → low piece ≡ low (padded Whole piece)
padded_whole piece = ap low (padded_bytes piece)

pub length-short : (piece : List ℕ) → length piece < 16 → length (padded Short piece) ≡ 16
length-short piece few =
    ap (λ (end : End). length (padded end piece)) (sym (short_end piece few)) ∙ length-padded_alone piece (omega arith)

pub fewer : (n most : ℕ) → n ≤ most → (n ≡ most → ⊥) → n < most
fewer n most few other = go (eq-or-lt_of_le few)
  where
    go : (n ≡ most) ⊎ (n < most) → n < most
    go (inl same) = absurd (other same)
    go (inr less) = less
