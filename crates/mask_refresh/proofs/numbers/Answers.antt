use Rattle.std.proofs.Common.{ℕ, List, [], ◌∷◌, ◌++◌, ap, sym, ◌∙◌, zero-add}
use Rattle.std.specs.List.{range_with_len}
use Rattle.mask_parts.proofs.Ranges.{range-more}
use Rattle.mask_refresh.proofs.numbers.Goals as goal

pub loop-number-preserved : goal.loop-number-preserved
loop-number-preserved c =
    let n : ℕ = c.loop-number.number in
    c.in_ok-push.ensures.items
    ∙ ap (λ (xs : List ℕ). xs ++ n ∷ []) c.loop-number.invariant
    ∙ sym (range-more 0 n ∙ ap (λ (k : ℕ). range_with_len 0 n ++ k ∷ []) (zero-add n))
