-- A write to a part of a slice, as the list with that stretch.
use Rattle.std.proofs.Common.{◌≡◌, ℕ, List, ◌++◌, length, take, ap}
use Rattle.std.proofs.lemmas.List.{drop-drop}
use borrow.Rule.Slice.PartMut.{put_mid}
use Rattle.mask_present.specs.Rounds.{with_stretch}

pub put_mid-stretch : (at n : ℕ) (xs ys zs : List ℕ) → ys ≡ zs → n ≡ length zs → put_mid at n xs ys ≡ with_stretch at zs xs
unfolding with_stretch
put_mid-stretch at n xs ys zs same long =
    rw (same, long) (ap (λ (ws : List ℕ). take at xs ++ (zs ++ ws)) (drop-drop (length zs) at xs))
