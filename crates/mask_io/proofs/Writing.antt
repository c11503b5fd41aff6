-- A piece that is written part by part.
use Rattle.std.proofs.Common.{◌≡◌, ℕ, ◌+◌, ◌-◌, ◌≤◌, List, length, take, drop, ap, ◌∙◌, subst, arith, length-drop, Option}
use Rattle.std.proofs.Math.Seq.{take-length, take-add}
use Rattle.std.proofs.lemmas.List.{drop-drop}
use Rattle.std.proofs.KnownBytes.{Appends-trans}
use Rattle.std.specs.Io.KnownBytes.{Appends}

-- what was written is the piece up to the rest
pub record SoFar (before now : Option (List ℕ)) (piece rest : List ℕ) : Type 0 where
  pub rest_is : rest ≡ drop (length piece - length rest) piece
  pub shorter : length rest ≤ length piece
  pub written : Appends before now (take (length piece - length rest) piece)

-- all that is left of a rest, as a slice from n on gives it
rest_from : (n : ℕ) (rest : List ℕ) → take (length rest - n) (drop n rest) ≡ drop n rest
rest_from n rest = rw (← length-drop n rest) (take-length (drop n rest))

-- n more bytes of the rest were written
pub one_more : (before mid now : Option (List ℕ)) (piece rest : List ℕ) (n : ℕ) → SoFar before mid piece rest → n ≤ length rest
    → Appends mid now (take n rest) → SoFar before now piece (take (length rest - n) (drop n rest))
one_more before mid now piece rest n so_far fits appended =
    let done = length piece - length rest in
    let left : length (drop n rest) ≡ length rest - n = length-drop n rest in
    let place : length piece - length (drop n rest) ≡ done + n = omega (arith, so_far.shorter, left) in
    rw (rest_from n rest) (record {
      rest_is = rw place (ap (drop n) so_far.rest_is ∙ drop-drop n done piece);
      shorter = omega (arith, so_far.shorter, left);
      written = rw (place, take-add done n piece)
          (Appends-trans before mid now _ _ so_far.written (subst (λ (r : List ℕ). Appends mid now (take n r)) so_far.rest_is appended));
    })
