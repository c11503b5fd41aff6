use Rattle.std.proofs.Common.{◌≡◌, ℕ, ◌+◌, ◌<◌, List, ap, ap₂, ◌∙◌, slice_set}
use Rattle.mask_circuit.specs.Netlist.{Netlist, value_count}
use Rattle.mask_parts.specs.Words32.{with_sum32, xor32_results, word}
use Rattle.mask_parts.proofs.Growing.{Grows-refl}
use Rattle.mask_parts.proofs.Laying.{Lays-exit}
use Rattle.mask_parts.proofs.Passing.{AreOf-Grows}
use Rattle.mask_parts.proofs.WordFitting.{value_count-with_sum32, All-rotated32}
use Rattle.mask_parts.proofs.WordPassing.{AreOf-word, Grows-xor32, Grows-sum32, AreOf-sum32}
use Rattle.mask_chaskey.specs.Rounds.{stage, with_mixed}
use Rattle.mask_chaskey.proofs.round.mix.Goals as goal

-- the draft with the sum
abbrev summed : Netlist → List (List ℕ) → ℕ → ℕ → Netlist
summed b ws i j = with_sum32 b (word ws i) (word ws j)

pub returns-in_err-sum : goal.returns-in_err-sum
unfolding with_mixed stage
returns-in_err-sum c =
    let b = c.args.b.now in
    Lays-exit _ b (summed b c.args.block.now c.args.i c.args.j) _ _ _ _ _ c.from_residual.ensures.1 (Grows-refl b) (Grows-xor32 _ _ _) c.in_err-sum.ensures.laid

pub xor32-requires-clause-x_known : goal.xor32-requires-clause-x_known
xor32-requires-clause-x_known c =
    let b = c.args.b.now in let ws = c.args.block.now in let y = word ws c.args.j in
    let d = summed b ws c.args.i c.args.j in
    rw (c.rot32.ensures.rotated, c.in_ok-sum.ensures.laid.1)
    (All-rotated32 (λ u. u < value_count d) c.args.k y (AreOf-Grows b d y (Grows-sum32 b _ y) (AreOf-word b ws c.args.j (rw c.told-block c.requires.second) c.requires.known)))

pub xor32-requires-clause-y_known : goal.xor32-requires-clause-y_known
xor32-requires-clause-y_known c = rw (c.in_ok-sum.ensures.laid.1, c.in_ok-sum.ensures.laid.0) (AreOf-sum32 c.args.b.now _ _)

pub returns-in_err-turned : goal.returns-in_err-turned
unfolding with_mixed stage
returns-in_err-turned c =
    let b = c.args.b.now in let ws = c.args.block.now in
    Lays-exit _ (summed b ws c.args.i c.args.j) _ _ _ _ _ _ c.from_residual-in_err-turned.ensures.1 (Grows-sum32 b _ _) (Grows-refl _)
    (rw (c.rot32.ensures.rotated, c.in_ok-sum.ensures.laid.1, c.in_ok-sum.ensures.laid.0) at c.in_err-turned.ensures.laid)

pub returns : goal.returns
unfolding with_mixed stage
returns c =
    let b = c.args.b.now in let ws = c.args.block.now in
    let sum = c.in_ok-sum.ensures.laid in
    let turned = rw (c.rot32.ensures.rotated, sum.1, sum.0) at c.in_ok-turned.ensures.laid in
    let count : value_count (summed b ws c.args.i c.args.j) ≡ value_count b + 185 = value_count-with_sum32 b _ _ in (
      ap₂ (λ (u v : List ℕ). slice_set (slice_set ws c.args.i u) c.args.j v) sum.0 (turned.0 ∙ ap xor32_results count),
      turned.1,
      turned.2,
    )
