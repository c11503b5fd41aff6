-- A piece is one step, behind what goes ahead of it.
use Rattle.std.proofs.Common.{◌≡◌, ℕ, ◌≤◌, List, [], ◌∷◌, ◌++◌, length, ap, ◌∙◌, arith}
use Rattle.mask_circuit.specs.Wires.{each}
use Rattle.mask_trace.specs.Steps.{Step}
use Rattle.mask_modes.specs.CounterMode.{block_count}
use Rattle.mask_modes.specs.Steps.{block_at}
use Rattle.mask_streams.specs.Streams.{ahead, start_step, steps_behind, stream_step}
use Rattle.mask_streams.proofs.Plans.{steps_of_some}

-- of one to eight bytes
pub steps_of_piece : (iv : List ℕ) (n : ℕ) (piece : List ℕ) → 1 ≤ length piece → length piece ≤ 8 →
    steps_behind iv n piece ≡ ahead iv n ++ stream_step (block_at 8 piece 0) ∷ []
steps_of_piece iv n piece some few =
    let one : block_count 8 (length piece) ≡ 1 = omega arith in
    steps_of_some iv n piece (omega arith)
    ∙ ap (λ (k : ℕ). ahead iv n ++ each (λ j. stream_step (block_at 8 piece j)) k) one

-- what goes ahead of the first one
pub start_ahead : (iv : List ℕ) (n : ℕ) → n ≡ 0 → ahead iv n ≡ start_step iv ∷ []
start_ahead iv n none = ap (ahead iv) none
