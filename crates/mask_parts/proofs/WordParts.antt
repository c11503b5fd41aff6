-- Parts on two words: what they are handed.
use Rattle.std.proofs.Common.{◌≡◌, ◌+◌, List, ◌++◌, length, map, get_or, ap, sym, ◌∙◌, arith, length-append}
use Rattle.std.specs.List.{range_with_len}
use Rattle.std.proofs.lemmas.List.{length-map, get_or-map, get_or_append_left, get_or-append-add}
use Rattle.std.proofs.lemmas.List.FromFn.{fill_by_all}

pub length-both : {X : Type 0} (xs ys : List X) → length xs ≡ 32 → length ys ≡ 32 → length (xs ++ ys) ≡ 64
length-both xs ys x_long y_long = omega (arith, length-append xs ys)

-- the first 32 operands are x, and the others are y
module _ {X Y : Type 0} (f : X → Y) (d : X) (e : Y) (xs ys : List X) (x_long : length xs ≡ 32) where
  pub first_word : map (λ i. f (get_or (xs ++ ys) i d)) (range_with_len 0 32) ≡ map f xs
  first_word = sym (fill_by_all (λ i. f (get_or (xs ++ ys) i d)) (map f xs) 32 e (length-map xs f ∙ x_long)
      (λ k lt. get_or-map f xs k d e (omega arith) ∙ ap f (sym (get_or_append_left xs ys d k (omega arith)))))

  pub second_word : length ys ≡ 32 → map (λ i. f (get_or (xs ++ ys) (32 + i) d)) (range_with_len 0 32) ≡ map f ys
  second_word y_long = sym (fill_by_all (λ i. f (get_or (xs ++ ys) (32 + i) d)) (map f ys) 32 e (length-map ys f ∙ y_long)
      (λ k lt. get_or-map f ys k d e (omega arith)
      ∙ ap f (sym (get_or-append-add xs ys k d) ∙ ap (λ n. get_or (xs ++ ys) (n + k) d) x_long)))
