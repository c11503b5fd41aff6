-- Inputs that are laid one after another, lane by lane.
use Rattle.std.proofs.Common.{◌≡◌, ℕ, ◌+◌, ◌<◌, ◌≤◌, Bool, List, [], ◌∷◌, ◌++◌, length, map, take, get_or, set, sym, ap, ap₂, ◌∙◌, arith}
use Rattle.std.proofs.lemmas.List.{map-append, take_more, take_more_set, take-append-le, take_all, length-take-le}
use Rattle.mask_bits.specs.Lanes.{lane}

pub lanes_more : (l k : ℕ) (shares inputs : List (List ℕ)) (value d : List ℕ) → k < length shares → k < length inputs →
    map (lane l) (take k inputs) ≡ map (lane 0) (take k shares) → lane l value ≡ lane 0 (get_or shares k d) →
    map (lane l) (take (k + 1) (set inputs k value)) ≡ map (lane 0) (take (k + 1) shares)
lanes_more l k shares inputs value d lt within before here =
    ap (map (lane l)) (take_more_set inputs k value within) ∙ map-append (lane l) (take k inputs) (value ∷ [])
    ∙ ap₂ (λ (xs ys : List (List Bool)). xs ++ ys) before (ap (λ (x : List Bool). x ∷ []) here)
    ∙ sym (ap (map (lane 0)) (take_more shares k d lt) ∙ map-append (lane 0) (take k shares) (get_or shares k d ∷ []))

-- the inputs in front stay
pub front_stays : {A : Type 0} (n : ℕ) (xs ys more : List A) → ys ≡ take n xs ++ more → n ≤ length xs → take n ys ≡ take n xs
front_stays n xs ys more is le =
    let long : length (take n xs) ≡ n = length-take-le n xs le in
    ap (take n) is ∙ take-append-le n (take n xs) more (omega arith) ∙ take_all n (take n xs) (omega arith)
