use Rattle.std.proofs.Common.{◌≡◌, ℕ, List, ◌∷◌, length, take, set, refl, ap, ◌∙◌, arith}
use Rattle.std.specs.List.{slice_rotate_right}
use Rattle.std.proofs.lemmas.List.{drop_more, drop_all}
use Rattle.mask_trivium.proofs.clock.shift.Goals as goal

-- the last place comes first, and its value is replaced
turned : (xs : List ℕ) (a : ℕ) → length xs ≡ 288 → set (slice_rotate_right xs 1) 0 a ≡ a ∷ take 287 xs
turned xs a long = rw (long, drop_more xs 287 0 (omega arith), drop_all 288 xs (omega arith)) refl

pub returns : goal.returns
returns c =
    ap (λ (ys : List ℕ). set (set ys 93 c.args.second) 177 c.args.third)
    (ap (λ (ys : List ℕ). set ys 0 c.args.first) c.rotate_right.ensures.after ∙ turned c.args.state.now c.args.first c.told-state)
