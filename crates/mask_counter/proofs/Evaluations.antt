-- The evaluations of a run: a refresh in one lane, and the blocks of a batch side by side.
use Rattle.std.proofs.Common.{◌≡◌, ℕ, zero, suc, pred, ◌+◌, ◌-◌, ◌*◌, ◌<◌, ◌≤◌, Bool, List, [], ◌∷◌, ◌++◌, length, map, drop, Option, inl, inr, refl, sym, ap, ap₂, subst, ◌∙◌, arith, append_assoc}
use Rattle.std.proofs.lemmas.List.{length-map, append-nil, drop_all}
use Rattle.mask_bits.specs.Reading.{bit}
use Rattle.mask_bits.specs.Lanes.{lane}
use Rattle.mask_circuit.specs.Netlist.{Netlist}
use Rattle.mask_circuit.specs.Ring.{words}
use Rattle.mask_circuit.specs.Wires.{each, on_first}
use Rattle.mask_circuit.specs.Sharing.{all_shared}
use Rattle.mask_eval.specs.Watching.{Told, Awaited, StaysReadyBehind}
use Rattle.mask_eval.specs.Evaluated.{inputs_of, EvaluatesInLanes}
use Rattle.mask_trace.specs.Steps.{Public, Plain, Key, Step, sharing_bits}
use Rattle.mask_trace.specs.Traces.{BitShares, input_shares}
use Rattle.mask_trace.specs.Drawing.{Ran, stand}
use Rattle.mask_trace.specs.Lanes.{RanInLanes}
use Rattle.mask_trace.proofs.Inputs.{words_are_inputs, inputs_stand_in_parts}
use Rattle.mask_trace.proofs.SideBySide.{lanes_are_steps, lane_is_step}
use Rattle.mask_modes.specs.CounterMode.{block_count, counter}
use Rattle.mask_modes.specs.Steps.{block_at, block_step, refresh_step}
use Rattle.mask_modes.proofs.Batches.{batches_are_steps}
use Rattle.mask_modes.proofs.TapeBits.{plain_bits-block}
use Rattle.mask_modes.proofs.BlockCounts.{block_count_grows, block_count-whole}
use Rattle.mask_counter.specs.Blocks.{IsBlockLength, reading}
use Rattle.mask_counter.specs.Batches.{Between, Encrypted, have, mode}

pub order-is : (N : ℕ) → N - 1 ≡ pred N
order-is zero = refl
order-is (suc N) = omega arith

module _ (N : ℕ) (run : Between) (before after : List Bool) (left left' : Option (List ℕ)) (told told' : Option (List Told)) (outputs : List (List ℕ))
    (key : List (List ℕ)) (same : (l : ℕ) → l < 64 → map (lane l) key ≡ run.shares) (size : length run.shares ≡ run.key) (small : length before < 8) where
  -- the shares of the key are the inputs of a refresh
  refresh_inputs : (l : ℕ) (coins : List ℕ) → l < 64 →
      map (lane l) (inputs_of N key [] [] coins) ≡ input_shares N (have run) (refresh_step (mode run)).inputs (lane l coins)
  refresh_inputs l coins lt =
      ap (map (lane l)) (append-nil (key ++ []) ∙ append-nil key) ∙ same l lt
      ∙ sym (inputs_stand_in_parts.key N (have run) (lane l coins))
      ∙ ap (λ (n : ℕ). input_shares N (have run) (each Key n) (lane l coins)) size

  pub refreshed : (now : List BitShares) → now ≡ map (lane 0) outputs → length outputs ≡ run.key →
      EvaluatesInLanes run.refresh N 1 key [] [] before after left left' told told' outputs →
      Ran N (have run) (refresh_step (mode run) ∷ []) (record { key = now; state = [] }) (stand before left told) (stand after left' told')
  refreshed now is many e =
      let none : (N - 1) * 0 ≡ 0 = omega arith in
      let long : length (map (lane 0) outputs) ≡ length run.shares = length-map outputs (lane 0) ∙ many ∙ sym size in
      let whole : map (lane 0) outputs ++ drop (length (map (lane 0) outputs)) run.shares ≡ now
      = ap (λ (l : List BitShares). map (lane 0) outputs ++ l) (drop_all (length (map (lane 0) outputs)) run.shares (omega arith))
      ∙ append-nil (map (lane 0) outputs) ∙ sym is in
      let lanes : RanInLanes N ((N - 1) * 0) 1 run.refresh (have run) (λ l. refresh_step (mode run)) e.coins (inputs_of N key [] [] e.coins) outputs
      (stand before left told) (stand after left' told')
      = record {
        few = omega arith;
        circuit = λ l lt. refl;
        sharing = λ l lt. batches_are_steps.refresh_coins N (mode run) ∙ sym none;
        small = small;
        drawn = e.drawn;
        inputs_are = λ l lt. refresh_inputs l e.coins (omega arith);
        outputs_are = e.on_bits;
        tells = e.tells;
      } in
      let P : List BitShares → Type 0 = λ key. Ran N (have run) (refresh_step (mode run) ∷ []) (record { key = key; state = [] }) (stand before left told) (stand after left' told') in
      subst P whole (lane_is_step N ((N - 1) * 0) run.refresh (have run) (λ l. refresh_step (mode run)) e.coins (inputs_of N key [] [] e.coins) outputs
      (stand before left told) (stand after left' told') lanes)

  module _ (piece counters blocks : List ℕ) (inputs : List (List ℕ))
      (inputs_is : inputs ≡ key ++ map (λ w. each (on_first words w) N) counters)
      (counters_are : (l : ℕ) → l < 64 → lane l counters ≡ reading run.order (counter run.block run.iv (run.done + l)))
      (blocks_are : (l : ℕ) → l < 64 → lane l blocks ≡ reading run.order (block_at run.block piece l))
      (few : block_count run.block (length piece) ≤ 64) where
    abbrev step : ℕ → Step
    step l = block_step (mode run) (run.done + l) (block_at run.block piece l)

    block_inputs : (l : ℕ) (coins : List ℕ) → l < 64 →
        map (lane l) (inputs_of N inputs blocks [] coins) ≡ input_shares N (have run) (step l).inputs (lane l coins)
    block_inputs l coins lt =
        let publics = map (λ w. each (on_first words w) N) counters in
        ap (map (lane l))
        (append-nil (inputs ++ all_shared words (N - 1) blocks coins)
        ∙ ap₂ (λ (xs : List (List ℕ)) (d : ℕ). xs ++ all_shared words d blocks coins) inputs_is (order-is N)
        ∙ append_assoc key publics (all_shared words (pred N) blocks coins))
        ∙ words_are_inputs l N (have run) key counters blocks coins (same l lt)
        ∙ ap (λ (n : ℕ). input_shares N (have run) (each Key n ++ (map Public (lane l counters) ++ map Plain (lane l blocks))) (lane l coins)) size
        ∙ ap₂ (λ (xs ys : List Bool). input_shares N (have run) (each Key run.key ++ (map Public xs ++ map Plain ys)) (lane l coins)) (counters_are l lt) (blocks_are l lt)

    block_sharing : (l : ℕ) → l < 64 → sharing_bits N (step l) ≡ (N - 1) * length blocks
    block_sharing l lt =
        ap (λ (bs : List Bool). pred N * length bs) (plain_bits-block (mode run) (run.done + l) (block_at run.block piece l) ∙ sym (blocks_are l lt))
        ∙ ap₂ (λ (d n : ℕ). d * n) (sym (order-is N)) (length-map blocks (bit l))

    pub encrypted : EvaluatesInLanes run.circuit N (block_count run.block (length piece)) inputs blocks [] before after left left' told told' outputs →
        Encrypted N (mode run) (have run) run.done piece outputs (stand before left told) (stand after left' told')
    encrypted e =
        let count = block_count run.block (length piece) in
        let lanes : RanInLanes N ((N - 1) * length blocks) count run.circuit (have run) (λ l. step l) e.coins (inputs_of N inputs blocks [] e.coins) outputs
        (stand before left told) (stand after left' told')
        = record {
          few = few;
          circuit = λ l lt. refl;
          sharing = λ l lt. block_sharing l (omega arith);
          small = small;
          drawn = e.drawn;
          inputs_are = λ l lt. block_inputs l e.coins (omega arith);
          outputs_are = e.on_bits;
          tells = e.tells;
        } in
        let both = lanes_are_steps N ((N - 1) * length blocks) count run.circuit (have run) (λ l. step l) e.coins (inputs_of N inputs blocks [] e.coins) outputs
        (stand before left told) (stand after left' told') lanes (λ l lt. refl) in
        record {
          ran = both.0;
          sharing = (N - 1) * length blocks;
          coins = e.coins;
          inputs = inputs_of N inputs blocks [] e.coins;
          lanes = lanes;
          made = both.1;
        }

-- what a watch stays ready for, where circuit and lanes have other names
pub still_ready : (ready ready' : List Awaited → Type 0) (c c' : Netlist) (n k k' : ℕ) → c ≡ c' → k ≡ k' → StaysReadyBehind ready ready' c n k → StaysReadyBehind ready ready' c' n k'
still_ready ready ready' c c' n k k' e f stays =
    subst (λ (net : Netlist). StaysReadyBehind ready ready' net n k') e (subst (λ (lanes : ℕ). StaysReadyBehind ready ready' c n lanes) f stays)

pub few_blocks : (b n : ℕ) → IsBlockLength b → n ≤ 64 * b → block_count b n ≤ 64
few_blocks b n is le =
    let some : 0 < b = elim is [ inl e ↦ omega arith | inr e ↦ omega arith ] in
    let grows = block_count_grows b n (64 * b) some le in
    let whole = block_count-whole b 64 some in omega arith

-- a run whose key has these shares
abbrev pub with_shares : Between → List BitShares → Between
with_shares run shares = record run { shares = shares }
