-- Whole blocks, and what follows them.
use Rattle.std.proofs.Common.{◌≡◌, ℕ, suc, ◌+◌, ◌*◌, ◌<◌, ◌≤◌, List, [], ◌∷◌, ◌++◌, length, take, drop, replicate, ap, ap₂, sym, ◌∙◌, arith, length-append, append_assoc, length-drop}
use Rattle.std.proofs.lemmas.List.{drop-append-le, take-append-le, drop_at, drop-drop}
use Rattle.std.proofs.lemmas.Nat.{row_fits}
use Rattle.mask_circuit.specs.Wires.{each}
use Rattle.mask_circuit.proofs.Places.{length-each}
use Rattle.mask_shares.proofs.Lists.{each-same}
use Rattle.mask_modes.specs.CounterMode.{block_count}
use Rattle.mask_modes.specs.Steps.{Mode, block_at, blocks, block_step, steps_from, ahead_of}
use Rattle.mask_modes.specs.Laws.{MessagesSplit}
use Rattle.mask_modes.proofs.BlockCounts.{block_count-add, block_count-whole}
use Rattle.mask_modes.proofs.Keystreams.{ciphertext-append}
use Rattle.mask_modes.proofs.Pieces.{each-add}

-- a block that is in whole blocks
block_at-front : (b n i : ℕ) (front rest : List ℕ) → length front ≡ n * b → i < n → block_at b (front ++ rest) i ≡ block_at b front i
block_at-front b n i front rest whole lt =
    let within : i * b + b ≤ n * b = row_fits i b n b lt (omega arith) in
    let start : i * b ≤ length front = omega arith in
    let end : b ≤ length (drop (i * b) front) = omega (arith, length-drop (i * b) front) in
    ap (λ l. take b (l ++ replicate b 0)) (drop-append-le (i * b) front rest start)
    ∙ ap (take b) (append_assoc (drop (i * b) front) rest (replicate b 0))
    ∙ take-append-le b (drop (i * b) front) (rest ++ replicate b 0) end
    ∙ sym (take-append-le b (drop (i * b) front) (replicate b 0) end)

-- a block behind them
block_at-rest : (b n i : ℕ) (front rest : List ℕ) → length front ≡ n * b → block_at b (front ++ rest) (n + i) ≡ block_at b rest i
block_at-rest b n i front rest whole =
    let e : (n + i) * b ≡ n * b + i * b = omega arith in
    ap (λ l. take b (l ++ replicate b 0))
    (ap (λ (k : ℕ). drop k (front ++ rest)) e
    ∙ sym (drop-drop (i * b) (n * b) (front ++ rest))
    ∙ ap (drop (i * b)) (drop_at front rest (n * b) whole))

blocks-append : (b n : ℕ) (front rest : List ℕ) → 0 < b → length front ≡ n * b → blocks b (front ++ rest) ≡ blocks b front ++ blocks b rest
blocks-append b n front rest some whole =
    let whole_count : block_count b (length front) ≡ n = ap (block_count b) whole ∙ block_count-whole b n some in
    let count : block_count b (length (front ++ rest)) ≡ n + block_count b (length rest)
    = ap (block_count b) (length-append front rest ∙ ap (λ (k : ℕ). k + length rest) whole) ∙ block_count-add b n (length rest) some in
    ap (each (block_at b (front ++ rest))) count
    ∙ each-add (block_at b (front ++ rest)) n (block_count b (length rest))
    ∙ ap₂ (λ (l m : List (List ℕ)). l ++ m) (each-same _ _ n (λ i lt. block_at-front b n i front rest whole lt) ∙ ap (each (block_at b front)) (sym whole_count))
    (each-same _ _ (block_count b (length rest)) (λ i lt. block_at-rest b n i front rest whole))

pub steps-append : (m : Mode) (i : ℕ) (front rest : List (List ℕ)) → steps_from m i (front ++ rest) ≡ steps_from m i front ++ steps_from m (i + length front) rest
unfolding steps_from
steps-append m i [] rest = let e : i ≡ i + 0 = omega arith in ap (λ (k : ℕ). steps_from m k rest) e
steps-append m i (block ∷ front) rest =
    let e : suc i + length front ≡ i + suc (length front) = omega arith in
    ap (λ l. ahead_of m i ++ block_step m i block ∷ l)
    (steps-append m (suc i) front rest ∙ ap (λ (k : ℕ). steps_from m (suc i) front ++ steps_from m k rest) e)
    ∙ sym (append_assoc (ahead_of m i) (block_step m i block ∷ steps_from m (suc i) front) (steps_from m (i + suc (length front)) rest))

pub messages_split : MessagesSplit
messages_split = record {
  cut = blocks-append;
  count = λ b n front some whole. length-each _ _ ∙ (ap (block_count b) whole ∙ block_count-whole b n some);
  steps = steps-append;
  ciphertext = λ b iv cipher i n front rest some makes whole. ciphertext-append b iv cipher some makes i n front rest whole;
}
