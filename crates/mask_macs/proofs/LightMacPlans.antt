-- The steps of LightMAC split behind whole pieces, are strong, and depend on the message in its bits alone.
use Rattle.std.proofs.Common.{◌≡◌, ℕ, suc, ◌+◌, ◌-◌, ◌*◌, ◌/◌, ◌%◌, ◌<◌, ◌≤◌, ◌==◌, Bool, true, false, cond, List, [], ◌∷◌, ◌++◌, map, length, refl, ap, ap₂, sym, ◌∙◌, arith, length-append}
use Rattle.std.proofs.Math.Nat.{zero-div}
use Rattle.std.proofs.lemmas.List.{length-map}
use Rattle.std.proofs.lemmas.List.Elements.{All-append}
use Rattle.mask_bits.specs.Reading.{high}
use Rattle.mask_circuit.specs.Wires.{each}
use Rattle.mask_circuit.proofs.Places.{length-each}
use Rattle.mask_laws.proofs.CircuitNames.{All-each}
use Rattle.mask_gadget.proofs.Made.{joined-same}
use Rattle.mask_tasks.specs.declared.sizes.KeySize.{KeySize}
use Rattle.mask_tasks.specs.declared.sizes.KeySize.TheVariants.{K80, K128}
use Rattle.mask_tasks.specs.Sizes.{present_bytes}
use Rattle.mask_lightmac.specs.LightMac.{last_piece, padded, piece_at, pieces_before}
use Rattle.mask_lightmac.specs.NamedLightMac.{end_of_bits, named_end, named_step, size_end, size_step, step_of_bits}
use Rattle.mask_lightmac.proofs.Concluding.{IsCipherCircuit-named_end, IsCipherCircuit-named_step}
use Rattle.mask_lightmac.proofs.Tags.{length-high}
use Rattle.mask_trace.specs.Steps.{InputBit, Plain, Key, AsKey, AsState, Step, IsNotHeld, IsThere, IsStrongStep, IsStrongPlan}
use Rattle.mask_trace.specs.Privacy.{AreAlike, without_message}
use Rattle.mask_trace.specs.Values.{states_after}
use Rattle.mask_trace.proofs.Taking.{inputs_are_alike}
use Rattle.mask_streams.proofs.Plans.{inputs_are, outputs_are}
use Rattle.mask_macs.specs.Codes.{IsCounterLength, IsNext, lightmac_code}
use Rattle.mask_macs.specs.Laws.{PlansSplit}
use Rattle.mask_macs.specs.LightMacRuns.{ahead, counted_bytes, end_step, fed_steps, key_width, lightmac_plan, next_steps, piece_step, piece_steps, refresh_step, value_bits}
use Rattle.mask_macs.proofs.LightMacRows.{counted_is_long, length-counted, length-padded, length-value_bits, padded_is_long, value_is_not_key, value_once, value_there}
use Rattle.mask_macs.proofs.Messages.{PiecesAreStrong}
use Rattle.mask_macs.proofs.Pieces.{IsLast, count-last, count-more, last-is, piece_of-front, piece_of-next}
use Rattle.mask_macs.proofs.Plans.{alike_both, states_after-append}
use Rattle.mask_macs.proofs.Refreshes.{outputs-refreshing, refresh_is_strong}
use Rattle.mask_macs.proofs.Rows.{IsNotKey, IsNotState, all_plains, alike_rows, each_once, key_and_state, none_once, state_and_key}

-- SIZES

pub step_inputs : (size : KeySize) → (named_step size).inputs ≡ key_width size + 128
step_inputs K80 = inputs_are (named_step K80) (size_step K80) (step_of_bits K80) (IsCipherCircuit-named_step K80)
step_inputs K128 = inputs_are (named_step K128) (size_step K128) (step_of_bits K128) (IsCipherCircuit-named_step K128)

pub step_outputs : (size : KeySize) → length (named_step size).outputs ≡ 64
step_outputs K80 = outputs_are (named_step K80) (size_step K80) (step_of_bits K80) (IsCipherCircuit-named_step K80)
step_outputs K128 = outputs_are (named_step K128) (size_step K128) (step_of_bits K128) (IsCipherCircuit-named_step K128)

pub end_inputs : (size : KeySize) → (named_end size).inputs ≡ key_width size + 128
end_inputs K80 = inputs_are (named_end K80) (size_end K80) (end_of_bits K80) (IsCipherCircuit-named_end K80)
end_inputs K128 = inputs_are (named_end K128) (size_end K128) (end_of_bits K128) (IsCipherCircuit-named_end K128)

pub end_outputs : (size : KeySize) → length (named_end size).outputs ≡ 64
end_outputs K80 = outputs_are (named_end K80) (size_end K80) (end_of_bits K80) (IsCipherCircuit-named_end K80)
end_outputs K128 = outputs_are (named_end K128) (size_end K128) (end_of_bits K128) (IsCipherCircuit-named_end K128)

module _ (size : KeySize) (s : ℕ) (is : IsCounterLength s) where
  pub some_bytes : 0 < 8 - s
  some_bytes = omega (arith, is.1)

  -- SPLITTING

  -- the pieces in front stay those, whatever comes behind
  pub piece_at-front : (front rest : List ℕ) (i : ℕ) → i < length front / (8 - s) → piece_at s (front ++ rest) i ≡ piece_at s front i
  unfolding piece_at
  piece_at-front front rest i lt = piece_of-front (8 - s) some_bytes front rest i lt

  pub piece_at-next : (front piece : List ℕ) → length front % (8 - s) ≡ 0 → length piece ≡ 8 - s →
      piece_at s (front ++ piece) (length front / (8 - s)) ≡ piece
  unfolding piece_at
  piece_at-next front piece whole long = piece_of-next (8 - s) some_bytes front piece whole long

  steps-front : (front rest : List ℕ) →
      piece_steps size s (front ++ rest) (length front / (8 - s)) ≡ piece_steps size s front (length front / (8 - s))
  steps-front front rest =
      joined-same _ _ (length front / (8 - s))
      (λ i lt. ap (λ (piece : List ℕ). next_steps size s ((8 - s) * i) piece false) (piece_at-front front rest i lt))

  -- whole pieces have so many bytes
  bytes_before : (front : List ℕ) → length front % (8 - s) ≡ 0 → (8 - s) * (length front / (8 - s)) ≡ length front
  bytes_before front whole = let some = some_bytes in omega arith

  splits_on : (front piece : List ℕ) → length front % (8 - s) ≡ 0 → length piece ≡ 8 - s →
      fed_steps size s (front ++ piece) ≡ fed_steps size s front ++ next_steps size s (length front) piece false
  splits_on front piece whole long =
      ap (piece_steps size s (front ++ piece)) (count-more (8 - s) some_bytes front piece whole long)
      ∙ ap₂ (λ (l r : List Step). l ++ r) (steps-front front piece)
      (ap₂ (λ (n : ℕ) (bytes : List ℕ). next_steps size s n bytes false) (bytes_before front whole) (piece_at-next front piece whole long))

  pub pieces_before-last : (front piece : List ℕ) → IsLast (8 - s) front piece →
      pieces_before s (front ++ piece) ≡ length front / (8 - s)
  unfolding pieces_before
  pieces_before-last front piece last = count-last (8 - s) some_bytes front piece last

  pub last_piece-last : (front piece : List ℕ) → IsLast (8 - s) front piece → last_piece s (front ++ piece) ≡ piece
  unfolding last_piece pieces_before
  last_piece-last front piece last = last-is (8 - s) some_bytes front piece last

  splits_at_end : (front piece : List ℕ) → IsLast (8 - s) front piece →
      lightmac_plan size s (front ++ piece) ≡ fed_steps size s front ++ next_steps size s (length front) piece true
  splits_at_end front piece last =
      ap₂ (λ (n : ℕ) (bytes : List ℕ). piece_steps size s (front ++ piece) n ++ end_step size ((8 - s) * n) bytes ∷ [])
      (pieces_before-last front piece last) (last_piece-last front piece last)
      ∙ ap₂ (λ (l : List Step) (n : ℕ). l ++ end_step size n piece ∷ []) (steps-front front piece) (bytes_before front last.whole)

  no_steps : fed_steps size s [] ≡ []
  no_steps = ap (piece_steps size s []) (zero-div (8 - s))

  pub plans_split : (tag : ℕ) → PlansSplit (lightmac_code size s tag)
  plans_split tag = record {
    no_steps = no_steps;
    on = splits_on;
    ends = λ front piece whole next. splits_at_end front piece (record { whole = whole; few = next.0; some = next.1 });
  }

  -- STRONG STEPS

  -- the bits of the key: K1 and K2
  abbrev width : ℕ
  width = 8 * (present_bytes size + present_bytes size)

  piece_is_strong : (state n : ℕ) (piece : List ℕ) → (0 < n → 64 ≤ state) → length piece ≡ 8 - s →
      IsStrongStep width state (piece_step size s n piece)
  piece_is_strong state n piece there long =
      let w = key_width size in
      let message = high (counted_bytes s n piece) in
      let plains = map Plain message in
      let others = plains ++ value_bits n in
      let more : length others ≡ 128
      = length-append plains (value_bits n)
      ∙ ap₂ (λ (a b : ℕ). a + b) (length-map message Plain ∙ counted_is_long s n piece is long) (length-value_bits n) in
      record {
        formed = (IsCipherCircuit-named_step size).circuit.formed;
        strong = (IsCipherCircuit-named_step size).strong;
        count = length-append (each Key w) others ∙ ap₂ (λ (a b : ℕ). a + b) (length-each Key w) more ∙ sym (step_inputs size);
        there = All-append (IsThere width state) (each Key w) others (All-each (IsThere width state) Key w (λ i lt. omega arith))
            (All-append (IsThere width state) plains (value_bits n) (all_plains (IsThere width state) (λ b. tt) message)
            (value_there width state n there));
        once = key_and_state (each Key w) others (All-each IsNotState Key w (λ i lt. tt))
            (All-append IsNotKey plains (value_bits n) (all_plains IsNotKey (λ b. tt) message) (value_is_not_key n))
            (each_once Key (λ i j e. cc) w)
            (key_and_state plains (value_bits n) (all_plains IsNotState (λ b. tt) message) (value_is_not_key n)
            (none_once plains (all_plains IsNotHeld (λ b. tt) message)) (value_once n));
        fit = tt;
      }

  -- the bits of K2 are different ones
  one_to_one : (i j : ℕ) → Key (key_width size + i) ≡ Key (key_width size + j) → i ≡ j
  one_to_one i j e = let same : key_width size + i ≡ key_width size + j = cc in omega arith

  end_is_strong : (state n : ℕ) (piece : List ℕ) → (0 < n → 64 ≤ state) → length piece ≤ 8 - s →
      IsStrongStep width state (end_step size n piece)
  end_is_strong state n piece there few =
      let w = key_width size in
      let keys = each (λ j. Key (w + j)) w in
      let message = high (padded piece) in
      let plains = map Plain message in
      let others = value_bits n ++ plains in
      let more : length others ≡ 128
      = length-append (value_bits n) plains
      ∙ ap₂ (λ (a b : ℕ). a + b) (length-value_bits n) (length-map message Plain ∙ padded_is_long s piece is few) in
      record {
        formed = (IsCipherCircuit-named_end size).circuit.formed;
        strong = (IsCipherCircuit-named_end size).strong;
        count = length-append keys others ∙ ap₂ (λ (a b : ℕ). a + b) (length-each (λ j. Key (w + j)) w) more ∙ sym (end_inputs size);
        there = All-append (IsThere width state) keys others (All-each (IsThere width state) (λ j. Key (w + j)) w (λ i lt. omega arith))
            (All-append (IsThere width state) (value_bits n) plains (value_there width state n there)
            (all_plains (IsThere width state) (λ b. tt) message));
        once = key_and_state keys others (All-each IsNotState (λ j. Key (w + j)) w (λ i lt. tt))
            (All-append IsNotKey (value_bits n) plains (value_is_not_key n) (all_plains IsNotKey (λ b. tt) message))
            (each_once (λ j. Key (w + j)) one_to_one w)
            (state_and_key (value_bits n) plains (value_is_not_key n) (all_plains IsNotState (λ b. tt) message)
            (value_once n) (none_once plains (all_plains IsNotHeld (λ b. tt) message)));
        fit = tt;
      }

  -- THE STEPS OF A PIECE

  -- a refresh, or nothing, and then a strong step
  behind_ahead : (state n : ℕ) (step : Step) → IsStrongStep width state step →
      IsStrongPlan width state (ahead size n false ++ step ∷ [])
  behind_ahead state n step strong = go (n == 0)
    where
      fits : length (refresh_step size).circuit.outputs ≤ 8 * (present_bytes size + present_bytes size)
      fits = omega (arith, outputs-refreshing (key_width size))

      go : (none : Bool) → IsStrongPlan (8 * (present_bytes size + present_bytes size)) state (cond none [] (refresh_step size ∷ []) ++ step ∷ [])
      go true = (strong, tt)
      go false =
          (refresh_is_strong (8 * (present_bytes size + present_bytes size)) state (key_width size) AsKey (omega arith) fits, (strong, tt))

  pieces_are_strong : (tag n state : ℕ) (piece : List ℕ) (last : Bool) → IsNext (lightmac_code size s tag) n piece last →
      (0 < n → 64 ≤ state) → IsStrongPlan width state (next_steps size s n piece last)
  pieces_are_strong tag n state piece false long there =
      behind_ahead state n (piece_step size s n piece) (piece_is_strong state n piece there long)
  pieces_are_strong tag n state piece true next there = (end_is_strong state n piece there next.0, tt)

  states : (n state : ℕ) (piece : List ℕ) (last : Bool) → states_after state (next_steps size s n piece last) ≡ 64
  states n state piece false = states_after-append state (ahead size n false) (piece_step size s n piece ∷ []) ∙ step_outputs size
  states n state piece true = end_outputs size

  -- ALIKE

  -- bytes as many as others have as many bits
  as_many_bits : (xs ys : List ℕ) → length xs ≡ length ys →
      map without_message (map Plain (high xs)) ≡ map without_message (map Plain (high ys))
  as_many_bits xs ys e =
      inputs_are_alike [] (high xs) (high ys) (length-high xs ∙ ap (λ (n : ℕ). 8 * n) e ∙ sym (length-high ys))

  pieces_are_alike : (n : ℕ) (piece other : List ℕ) (last : Bool) → length piece ≡ length other →
      AreAlike (next_steps size s n piece last) (next_steps size s n other last)
  pieces_are_alike n piece other false e =
      let keys = each Key (key_width size) in
      let counted = map Plain (high (counted_bytes s n piece)) in
      let counted' = map Plain (high (counted_bytes s n other)) in
      alike_both _ _ (ahead size n false) (ahead size n false) (piece_step size s n piece ∷ []) (piece_step size s n other ∷ []) refl refl refl
      (ap (λ (is : List InputBit). record { circuit = named_step size; inputs = is; keeps = AsState } ∷ [])
      (alike_rows keys keys (counted ++ value_bits n) (counted' ++ value_bits n) refl
      (alike_rows counted counted' (value_bits n) (value_bits n)
      (as_many_bits (counted_bytes s n piece) (counted_bytes s n other)
      (length-counted s n piece ∙ ap (λ (k : ℕ). s + k) e ∙ sym (length-counted s n other))) refl)))
  pieces_are_alike n piece other true e =
      let keys = each (λ j. Key (key_width size + j)) (key_width size) in
      let plains = map Plain (high (padded piece)) in
      let plains' = map Plain (high (padded other)) in
      ap (λ (is : List InputBit). record { circuit = named_end size; inputs = is; keeps = AsState } ∷ [])
      (alike_rows keys keys (value_bits n ++ plains) (value_bits n ++ plains') refl
      (alike_rows (value_bits n) (value_bits n) plains plains' refl
      (as_many_bits (padded piece) (padded other)
      (length-padded piece ∙ ap (λ (k : ℕ). k + suc (7 - k)) e ∙ sym (length-padded other)))))

  pub pieces : (tag : ℕ) → PiecesAreStrong (lightmac_code size s tag)
  pieces tag = record {
    some = some_bytes;
    split = plans_split tag;
    strong = pieces_are_strong tag;
    states = states;
    alike = pieces_are_alike;
  }
