-- The steps of Chaskey split behind whole blocks, are strong, and depend on the message in its bits alone.
use Rattle.std.proofs.Common.{◌≡◌, ℕ, ◌+◌, ◌*◌, ◌/◌, ◌%◌, ◌<◌, ◌≤◌, ◌==◌, Bool, true, false, cond, List, [], ◌∷◌, ◌++◌, map, length, refl, ap, ap₂, sym, ◌∙◌, arith, length-append, ne_eqb}
use Rattle.std.proofs.lemmas.Bool.{eqb-false}
use Rattle.std.proofs.lemmas.List.{length-map}
use Rattle.std.proofs.lemmas.List.Elements.{All-append}
use Rattle.mask_bits.specs.Reading.{low}
use Rattle.mask_bits.proofs.Bytes.{length-low}
use Rattle.mask_circuit.specs.Wires.{each}
use Rattle.mask_circuit.proofs.Places.{length-each}
use Rattle.mask_laws.proofs.CircuitNames.{All-each}
use Rattle.mask_shares.proofs.Lists.{each-same}
use Rattle.mask_chaskey.specs.declared.doubling.End.{End}
use Rattle.mask_chaskey.specs.declared.doubling.End.TheVariants.{Whole, Short}
use Rattle.mask_chaskey.specs.Chaskey.{end_of, padded}
use Rattle.mask_chaskey.specs.NamedChaskey.{end_of_bits, named_end, named_step, size_end, size_step, step_of_bits}
use Rattle.mask_chaskey.proofs.Concluding.{IsCipherCircuit-named_end, IsCipherCircuit-named_step}
use Rattle.mask_refresh.specs.Refreshing.{refreshing}
use Rattle.mask_trace.specs.Steps.{InputBit, Plain, Key, State, AsState, Step, IsNotHeld, IsThere, IsStrongStep, IsStrongPlan}
use Rattle.mask_trace.specs.Privacy.{AreAlike, blank, without_message}
use Rattle.mask_trace.specs.Values.{states_after}
use Rattle.mask_trace.proofs.Taking.{inputs_are_alike}
use Rattle.mask_streams.proofs.Plans.{inputs_are, outputs_are}
use Rattle.mask_macs.specs.ChaskeyRuns.{ahead, block_step, block_steps, chaskey_plan, end_step, fed_steps, next_steps, start_step}
use Rattle.mask_macs.specs.Codes.{IsNext, chaskey_code}
use Rattle.mask_macs.specs.Laws.{PlansSplit}
use Rattle.mask_macs.proofs.ChaskeyBlocks.{blocks_before-last, end_of-alike, end_of-last, last_bytes-last, length-padded_alone, padded-alike}
use Rattle.mask_macs.proofs.Messages.{PiecesAreStrong}
use Rattle.mask_macs.proofs.Pieces.{IsLast, count-more, piece_of-front, piece_of-next}
use Rattle.mask_macs.proofs.Plans.{alike_both, states_after-append}
use Rattle.mask_macs.proofs.Refreshes.{outputs-refreshing, refresh_is_strong}
use Rattle.mask_macs.proofs.Rows.{IsNotKey, IsNotState, all_plains, alike_rows, each_once, key_and_state, none_once, state_and_key}

-- SIZES

pub step_inputs : named_step.inputs ≡ 256
step_inputs = inputs_are named_step size_step step_of_bits IsCipherCircuit-named_step

pub step_outputs : length named_step.outputs ≡ 128
step_outputs = outputs_are named_step size_step step_of_bits IsCipherCircuit-named_step

pub end_inputs : (end : End) → (named_end end).inputs ≡ 384
end_inputs Whole = inputs_are (named_end Whole) (size_end Whole) (end_of_bits Whole) (IsCipherCircuit-named_end Whole)
end_inputs Short = inputs_are (named_end Short) (size_end Short) (end_of_bits Short) (IsCipherCircuit-named_end Short)

pub end_outputs : (end : End) → length (named_end end).outputs ≡ 128
end_outputs Whole = outputs_are (named_end Whole) (size_end Whole) (end_of_bits Whole) (IsCipherCircuit-named_end Whole)
end_outputs Short = outputs_are (named_end Short) (size_end Short) (end_of_bits Short) (IsCipherCircuit-named_end Short)

-- SPLITTING

-- the key is made the first state once
pub none_ahead : (n : ℕ) → 0 < n → ahead n ≡ []
none_ahead n some = ap (λ (b : Bool). cond b (start_step ∷ []) []) (ne_eqb n 0 (λ e. omega arith))

pub fed_some : (front : List ℕ) → 0 < length front → fed_steps front ≡ start_step ∷ block_steps front (length front / 16)
fed_some [] some = absurd (omega arith)
fed_some (byte ∷ more) some = refl

-- the steps of whole blocks stay those, whatever comes behind
pub block_steps-front : (front rest : List ℕ) → block_steps (front ++ rest) (length front / 16) ≡ block_steps front (length front / 16)
block_steps-front front rest =
    each-same _ _ (length front / 16) (λ i lt. ap block_step (piece_of-front 16 (omega arith) front rest i lt))

-- one block more
block_steps-more : (front piece : List ℕ) → length front % 16 ≡ 0 → length piece ≡ 16 →
    block_steps (front ++ piece) (length (front ++ piece) / 16)
    ≡ block_steps front (length front / 16) ++ block_step piece ∷ []
block_steps-more front piece whole size =
    ap (block_steps (front ++ piece)) (count-more 16 (omega arith) front piece whole size)
    ∙ ap₂ (λ (l : List Step) (block : List ℕ). l ++ block_step block ∷ []) (block_steps-front front piece)
    (piece_of-next 16 (omega arith) front piece whole size)

splits_on : (front piece : List ℕ) → length front % 16 ≡ 0 → length piece ≡ 16 →
    fed_steps (front ++ piece) ≡ fed_steps front ++ next_steps (length front) piece false
splits_on [] piece whole size =
    fed_some piece (omega arith) ∙ ap (λ (l : List Step). start_step ∷ l) (block_steps-more [] piece whole size)
splits_on (byte ∷ more) piece whole size =
    let front = byte ∷ more in
    ap (λ (l : List Step). start_step ∷ l) (block_steps-more front piece whole size)
    ∙ ap (λ (l : List Step). fed_steps front ++ (l ++ block_step piece ∷ [])) (sym (none_ahead (length front) (omega arith)))

-- a message that ends in this piece
plan_is : (front piece : List ℕ) → IsLast 16 front piece →
    chaskey_plan (front ++ piece) ≡ start_step ∷ (block_steps front (length front / 16) ++ end_step (end_of piece) piece ∷ [])
plan_is front piece is =
    let steps = ap (block_steps (front ++ piece)) (blocks_before-last front piece is) ∙ block_steps-front front piece in
    let last = ap₂ end_step (end_of-last front piece is) (last_bytes-last front piece is) in
    ap₂ (λ (l : List Step) (s : Step). start_step ∷ (l ++ s ∷ [])) steps last

splits_at_end : (front piece : List ℕ) → IsLast 16 front piece →
    chaskey_plan (front ++ piece) ≡ fed_steps front ++ next_steps (length front) piece true
splits_at_end [] piece is = plan_is [] piece is
splits_at_end (byte ∷ more) piece is =
    let front = byte ∷ more in
    plan_is front piece is
    ∙ ap (λ (l : List Step). fed_steps front ++ (l ++ end_step (end_of piece) piece ∷ [])) (sym (none_ahead (length front) (omega arith)))

pub plans_split : (tag : ℕ) → PlansSplit (chaskey_code tag)
plans_split tag = record {
  no_steps = refl;
  on = λ front piece whole size. splits_on front piece whole size;
  ends = λ front piece whole next. splits_at_end front piece (record { whole = whole; few = next.0; some = next.1 });
}

-- STRONG STEPS

start_is_strong : (s : ℕ) → IsStrongStep 128 s start_step
start_is_strong s = refresh_is_strong 128 s 128 AsState (omega arith) tt

pub block_is_strong : (s : ℕ) (block : List ℕ) → 128 ≤ s → length block ≡ 16 → IsStrongStep 128 s (block_step block)
block_is_strong s block enough size =
    let plains = map Plain (low block) in
    let long : length plains ≡ 128 = length-map (low block) Plain ∙ (let e = length-low block in omega arith) in
    record {
      formed = IsCipherCircuit-named_step.circuit.formed;
      strong = IsCipherCircuit-named_step.strong;
      count = length-append (each State 128) plains ∙ ap₂ (λ (a b : ℕ). a + b) (length-each State 128) long ∙ sym step_inputs;
      there = All-append (IsThere 128 s) (each State 128) plains (All-each (IsThere 128 s) State 128 (λ i lt. omega arith))
          (all_plains (IsThere 128 s) (λ b. tt) (low block));
      once = state_and_key (each State 128) plains (All-each IsNotKey State 128 (λ i lt. tt)) (all_plains IsNotState (λ b. tt) (low block))
          (each_once State (λ i j e. cc) 128) (none_once plains (all_plains IsNotHeld (λ b. tt) (low block)));
      fit = tt;
    }

pub end_is_strong : (s : ℕ) (end : End) (bytes : List ℕ) → 128 ≤ s → length (padded end bytes) ≡ 16 →
    IsStrongStep 128 s (end_step end bytes)
end_is_strong s end bytes enough size =
    let message = low (padded end bytes) in
    let plains = map Plain message in
    let others = each Key 128 ++ plains in
    let long : length plains ≡ 128 = length-map message Plain ∙ (let e = length-low (padded end bytes) in omega arith) in
    let more : length others ≡ 256
    = length-append (each Key 128) plains ∙ ap₂ (λ (a b : ℕ). a + b) (length-each Key 128) long in
    record {
      formed = (IsCipherCircuit-named_end end).circuit.formed;
      strong = (IsCipherCircuit-named_end end).strong;
      count = length-append (each State 128) others ∙ ap₂ (λ (a b : ℕ). a + b) (length-each State 128) more ∙ sym (end_inputs end);
      there = All-append (IsThere 128 s) (each State 128) others (All-each (IsThere 128 s) State 128 (λ i lt. omega arith))
          (All-append (IsThere 128 s) (each Key 128) plains (All-each (IsThere 128 s) Key 128 (λ i lt. lt))
          (all_plains (IsThere 128 s) (λ b. tt) message));
      once = state_and_key (each State 128) others (All-each IsNotKey State 128 (λ i lt. tt))
          (All-append IsNotState (each Key 128) plains (All-each IsNotState Key 128 (λ i lt. tt)) (all_plains IsNotState (λ b. tt) message))
          (each_once State (λ i j e. cc) 128)
          (key_and_state (each Key 128) plains (All-each IsNotState Key 128 (λ i lt. tt)) (all_plains IsNotKey (λ b. tt) message)
          (each_once Key (λ i j e. cc) 128) (none_once plains (all_plains IsNotHeld (λ b. tt) message)));
      fit = tt;
    }

-- THE STEPS OF A PIECE

-- behind what goes ahead comes a step that is strong where the state is there
next_is_strong : (n s : ℕ) (step : Step) → (0 < n → 128 ≤ s) → ((s : ℕ) → 128 ≤ s → IsStrongStep 128 s step) →
    IsStrongPlan 128 s (ahead n ++ step ∷ [])
next_is_strong n s step there strong = go (n == 0) refl
  where
    go : (none : Bool) → (n == 0) ≡ none → IsStrongPlan 128 s (cond none (start_step ∷ []) [] ++ step ∷ [])
    go true first = (start_is_strong s, (strong (length (refreshing 128).outputs) (omega (arith, outputs-refreshing 128)), tt))
    go false later = let ne : n ≡ 0 → ⊥ = eqb-false n 0 later in (strong s (there (omega arith)), tt)

pieces_are_strong : (tag n s : ℕ) (piece : List ℕ) (last : Bool) → IsNext (chaskey_code tag) n piece last → (0 < n → 128 ≤ s) →
    IsStrongPlan 128 s (next_steps n piece last)
pieces_are_strong tag n s piece false size there =
    next_is_strong n s (block_step piece) there (λ s enough. block_is_strong s piece enough size)
pieces_are_strong tag n s piece true next there =
    next_is_strong n s (end_step (end_of piece) piece) there
    (λ s enough. end_is_strong s (end_of piece) piece enough (length-padded_alone piece next.0))

states : (n s : ℕ) (piece : List ℕ) (last : Bool) → states_after s (next_steps n piece last) ≡ 128
states n s piece false = states_after-append s (ahead n) (block_step piece ∷ []) ∙ step_outputs
states n s piece true = states_after-append s (ahead n) (end_step (end_of piece) piece ∷ []) ∙ end_outputs (end_of piece)

-- their inputs with as many message bits
block_inputs : (xs ys : List Bool) → length xs ≡ length ys →
    map without_message (each State 128 ++ map Plain xs) ≡ map without_message (each State 128 ++ map Plain ys)
block_inputs xs ys e = inputs_are_alike (each State 128) xs ys e

end_inputs_alike : (xs ys : List Bool) → length xs ≡ length ys →
    map without_message (each State 128 ++ (each Key 128 ++ map Plain xs))
    ≡ map without_message (each State 128 ++ (each Key 128 ++ map Plain ys))
end_inputs_alike xs ys e =
    alike_rows (each State 128) (each State 128) (each Key 128 ++ map Plain xs) (each Key 128 ++ map Plain ys) refl
    (inputs_are_alike (each Key 128) xs ys e)

-- bytes as many as others have as many bits
as_many_bits : (xs ys : List ℕ) → length xs ≡ length ys → length (low xs) ≡ length (low ys)
as_many_bits xs ys e = length-low xs ∙ ap (λ (n : ℕ). 8 * n) e ∙ sym (length-low ys)

pieces_are_alike : (n : ℕ) (piece other : List ℕ) (last : Bool) → length piece ≡ length other →
    AreAlike (next_steps n piece last) (next_steps n other last)
pieces_are_alike n piece other false e =
    alike_both _ _ (ahead n) (ahead n) (block_step piece ∷ []) (block_step other ∷ []) refl refl refl
    (ap (λ (is : List InputBit). record { circuit = named_step; inputs = is; keeps = AsState } ∷ [])
    (block_inputs (low piece) (low other) (as_many_bits piece other e)))
pieces_are_alike n piece other true e =
    let end = end_of piece in
    alike_both _ _ (ahead n) (ahead n) (end_step end piece ∷ []) (end_step (end_of other) other ∷ []) refl refl refl
    (ap (λ (is : List InputBit). record { circuit = named_end end; inputs = is; keeps = AsState } ∷ [])
    (end_inputs_alike (low (padded end piece)) (low (padded end other))
    (as_many_bits (padded end piece) (padded end other) (padded-alike end piece other e)))
    ∙ ap (λ (end : End). blank (end_step end other) ∷ []) (end_of-alike piece other e))

pub pieces : (tag : ℕ) → PiecesAreStrong (chaskey_code tag)
pieces tag = record {
  some = omega arith;
  split = plans_split tag;
  strong = pieces_are_strong tag;
  states = states;
  alike = pieces_are_alike;
}
