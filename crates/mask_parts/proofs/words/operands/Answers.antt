use Rattle.std.proofs.Common.{◌≡◌, List, ℕ, [], length, drop, ◌++◌, refl, rules, ap, ap₂, ◌∙◌, arith, length-append}
use Rattle.std.proofs.lemmas.List.{take_at, drop_all, length-drop, append-nil}
use borrow.Rule.Slice.PartMut.{put_mid}
use Rattle.mask_parts.proofs.words.operands.Goals as goal

-- the second half of a list is replaced
second_half : (xs ys zs : List ℕ) → length xs ≡ 32 → length zs ≡ 32 → put_mid 32 32 (xs ++ zs) ys ≡ xs ++ ys
second_half xs ys zs x_long z_long =
    let none : drop 32 (drop 32 (xs ++ zs)) ≡ [] = drop_all 32 (drop 32 (xs ++ zs)) (omega (arith, length-drop 32 (xs ++ zs), length-append xs zs)) in
    ap₂ ◌++◌ (take_at xs zs 32 x_long) (ap (λ (rest : List ℕ). ys ++ rest) none ∙ append-nil ys)

pub returns : goal.returns
returns c =
    let x_in = c.copy_from_slice.ensures.after in
    let long : length c.copy_from_slice.new.self ≡ 32 = ap length x_in ∙ search rules in
    second_half c.copy_from_slice.new.self c.copy_from_slice-2.new.self _ long refl ∙ ap₂ ◌++◌ x_in c.copy_from_slice-2.ensures.after
