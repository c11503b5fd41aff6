-- The steps of a batch.
use Rattle.std.proofs.Common.{◌≡◌, ℕ, zero, suc, pred, ◌+◌, ◌-◌, ◌*◌, ◌%◌, ◌<◌, ◌≤◌, Bool, not, ◌&&◌, ◌==◌, cond, List, [], ◌∷◌, ◌++◌, length, refl, ap, ap₂, sym, subst, ◌∙◌, arith, ne_eqb, append_assoc, add-zero}
use Rattle.mask_circuit.specs.Wires.{each}
use Rattle.mask_circuit.proofs.Places.{length-each}
use Rattle.mask_trace.specs.Steps.{Step}
use Rattle.mask_trace.specs.Drawing.{Ran, RanPart}
use Rattle.mask_trace.proofs.Drawing.{runs_join}
use Rattle.mask_trace.proofs.Inputs.{inputs_stand_in_parts}
use Rattle.mask_modes.specs.CounterMode.{block_count}
use Rattle.mask_modes.specs.Steps.{Mode, IsBatch, block_at, blocks, block_step, block_steps, refresh_step, steps_from, ahead_of}
use Rattle.mask_modes.specs.Laws.{BatchesAreSteps}
use Rattle.mask_modes.proofs.Splitting.{steps-append}
use Rattle.mask_modes.proofs.TapeBits.{plain_bits-block}

-- nothing goes ahead of the other blocks of a batch
none_ahead : (m : Mode) (i n : ℕ) → i % 64 ≡ 0 → 1 ≤ n → n < 64 → ahead_of m (i + n) ≡ []
none_ahead m i n behind some few =
    ap (λ (b : Bool). cond (b && not (i + n == 0)) (refresh_step m ∷ []) []) (ne_eqb ((i + n) % 64) 0 (λ e. omega arith))

one_block : (m : Mode) (i : ℕ) (block : List ℕ) → steps_from m i (block ∷ []) ≡ ahead_of m i ++ block_step m i block ∷ []
unfolding steps_from
one_block m i block = refl

-- up to 64 blocks that are made by number
made_steps : (m : Mode) (i n : ℕ) (f : ℕ → List ℕ) → i % 64 ≡ 0 → n < 64 →
    steps_from m i (each f (suc n)) ≡ ahead_of m i ++ each (λ l. block_step m (i + l) (f l)) (suc n)
made_steps m i zero f behind few = one_block m i (f 0) ∙ ap (λ (k : ℕ). ahead_of m i ++ block_step m k (f 0) ∷ []) (sym (add-zero i))
made_steps m i (suc n) f behind few =
    steps-append m i (each f (suc n)) (f (suc n) ∷ [])
    ∙ ap₂ (λ (front back : List Step). front ++ back) (made_steps m i n f behind (omega arith))
    (ap (λ (k : ℕ). steps_from m (i + k) (f (suc n) ∷ [])) (length-each f (suc n))
    ∙ one_block m (i + suc n) (f (suc n))
    ∙ ap (λ l. l ++ block_step m (i + suc n) (f (suc n)) ∷ []) (none_ahead m i (suc n) behind (omega arith) few))
    ∙ append_assoc (ahead_of m i) (each (λ l. block_step m (i + l) (f l)) (suc n)) (block_step m (i + suc n) (f (suc n)) ∷ [])

batch_steps : (m : Mode) (i : ℕ) (part : List ℕ) → IsBatch m i part → steps_from m i (blocks m.block part) ≡ ahead_of m i ++ block_steps m i part
batch_steps m i part is =
    let n = block_count m.block (length part) in
    let some : 1 ≤ n = is.some in
    let few : n ≤ 64 = is.few in
    let e : n ≡ suc (n - 1) = omega arith in
    ap (λ (k : ℕ). steps_from m i (each (block_at m.block part) k)) e
    ∙ made_steps m i (n - 1) (block_at m.block part) is.behind (omega arith)
    ∙ ap (λ (k : ℕ). ahead_of m i ++ each (λ l. block_step m (i + l) (block_at m.block part l)) k) (sym e)

pub batches_are_steps : BatchesAreSteps
batches_are_steps = record {
  steps = batch_steps;
  refresh_coins = λ N m. ap (λ (l : List Bool). pred N * length l) (inputs_stand_in_parts.bits_of_key m.key) ∙ omega arith;
  block_coins = λ N m cipher i block is block_is.
      ap (λ (k : ℕ). pred N * k) (ap length (plain_bits-block m i block) ∙ is.reads.count block ∙ ap (λ (k : ℕ). 8 * k) block_is.0);
  ran = λ N m have now after i part a b c is first second.
      subst (λ (ss : List Step). Ran N have ss after a c) (sym (batch_steps m i part is))
      (runs_join.all N have now after (ahead_of m i) (block_steps m i part) a b c first second);
  stopped_ahead = λ N m have i part count a b is first.
      subst (λ (ss : List Step). RanPart N have ss count a b) (sym (batch_steps m i part is))
      (runs_join.stops N have (ahead_of m i) (block_steps m i part) count a b first);
  stopped = λ N m have now i part count a b c is first second.
      subst (λ (ss : List Step). RanPart N have ss (length (ahead_of m i) + count) a c) (sym (batch_steps m i part is))
      (runs_join.part N have now (ahead_of m i) (block_steps m i part) count a b c first second);
}
