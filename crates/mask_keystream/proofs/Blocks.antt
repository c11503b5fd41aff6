-- A short block.
use Rattle.std.proofs.Common.{◌≡◌, ℕ, ◌+◌, ◌-◌, ◌≤◌, List, ◌++◌, length, take, drop, replicate, sym, ap, ◌∙◌, arith}
use Rattle.std.proofs.Math.Seq.{take-append-add}
use Rattle.std.proofs.lemmas.List.{drop-replicate, take-replicate}
use Rattle.mask_modes.specs.Steps.{block_at}

-- a piece that is laid over zeros is its block
pub filled_up : (piece : List ℕ) → length piece ≤ 8 → piece ++ drop (length piece) (replicate 8 0) ≡ block_at 8 piece 0
filled_up piece few =
    let rest : drop (length piece) (replicate 8 0) ≡ replicate (8 - length piece) 0 = drop-replicate (length piece) 8 0 in
    let size : length piece + (8 - length piece) ≡ 8 = omega arith in
    ap (λ (zeros : List ℕ). piece ++ zeros) (rest ∙ sym (take-replicate (8 - length piece) 8 0 (omega arith)))
    ∙ sym (take-append-add piece (replicate 8 0) (8 - length piece))
    ∙ ap (λ (n : ℕ). take n (piece ++ replicate 8 0)) size
