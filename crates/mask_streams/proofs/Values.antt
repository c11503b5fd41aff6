-- What the steps compute: the state of the cipher, and the registers behind them.
use Rattle.std.proofs.Common.{◌≡◌, ℕ, suc, ◌+◌, ◌*◌, ◌%◌, ◌<◌, ◌≤◌, ◌==◌, Bool, true, false, cond, List, [], ◌∷◌, ◌++◌, map, length, take, get_or, All, refl, ap, ap₂, sym, ◌∙◌, arith, length-append, ne_eqb}
use Rattle.std.proofs.lemmas.Bool.{eqb-false}
use Rattle.std.proofs.lemmas.List.{length-map, length-take-le, map-append, map-id, get_or-take, take_all, take_at, drop_at}
use Rattle.std.proofs.lemmas.List.Elements.{All-tail}
use Rattle.std.proofs.lemmas.Simd.{map-map}
use Rattle.mask_bits.specs.Reading.{low}
use Rattle.mask_bits.proofs.Bytes.{length-low}
use Rattle.mask_circuit.specs.Value.{plain, value_at}
use Rattle.mask_circuit.specs.Wires.{each}
use Rattle.mask_circuit.proofs.Places.{length-each}
use Rattle.mask_shares.proofs.Lists.{each-get_or, each-same, map-each}
use Rattle.mask_parts.specs.Rows.{xor_bits}
use Rattle.mask_trivium.specs.Trivium.{clocks, outputs, started}
use Rattle.mask_trivium.specs.NamedTrivium.{named_start, named_step, start_of_bits, step_of_bits}
use Rattle.mask_trivium.proofs.Concluding.{IsCipherCircuit-named_start, IsCipherCircuit-named_step}
use Rattle.mask_trivium.proofs.Shifting.{clocks-add}
use Rattle.mask_trace.specs.Steps.{Public, Plain, Key, State, Registers, Step}
use Rattle.mask_trace.specs.Values.{input_value, step_value, value_after}
use Rattle.mask_trace.proofs.Beginnings.{value_after-append}
use Rattle.mask_modes.specs.CounterMode.{block_count}
use Rattle.mask_modes.specs.Steps.{block_at, blocks}
use Rattle.mask_modes.proofs.Blocks.{blocks_are_long}
use Rattle.mask_streams.specs.Streams.{IsHeldBehind, ahead, start_step, state_at, steps_behind, stream_step, with_key}
use Rattle.mask_streams.specs.Laws.{RegistersGoOn}
use Rattle.mask_streams.proofs.Keystreams.{length-clocks, length-started}
use Rattle.mask_streams.proofs.Plans.{block_steps-map, start_inputs, start_outputs, step_inputs, step_outputs, steps-append, steps_of_some}

-- ONE STEP

-- the first elements of a list
pub each-take : {A : Type 0} (xs : List A) (n : ℕ) (d : A) → n ≤ length xs → each (λ i. get_or xs i d) n ≡ take n xs
each-take xs n d few =
    each-same _ (λ i. get_or (take n xs) i d) n (λ i lt. sym (get_or-take n xs i d lt))
    ∙ ap (each (λ i. get_or (take n xs) i d)) (sym (length-take-le n xs few))
    ∙ each-get_or (take n xs) d

start_values : (held : Registers Bool) (iv : List ℕ) → length held.key ≡ 80 →
    map (input_value held) (each Key 80 ++ map Public (low iv)) ≡ take 80 held.key ++ low iv
start_values held iv long =
    map-append (input_value held) (each Key 80) (map Public (low iv))
    ∙ ap₂ (λ (l r : List Bool). l ++ r) (map-each (input_value held) Key 80 ∙ each-take held.key 80 false (omega arith))
    (map-map (input_value held) Public (low iv) ∙ map-id (low iv))

-- the start makes the state of the key and the IV
pub start_value : (held : Registers Bool) (iv : List ℕ) → length held.key ≡ 80 → length iv ≡ 10 →
    step_value held (start_step iv) ≡ started (take 80 held.key) (low iv)
unfolding start_of_bits
start_value held iv long ten =
    let key = take 80 held.key in
    let size : length key ≡ 80 = length-take-le 80 held.key (omega arith) in
    let all : length (key ++ low iv) ≡ 160 = length-append key (low iv) ∙ (let e = length-low iv in omega arith) in
    ap (plain named_start) (start_values held iv long)
    ∙ IsCipherCircuit-named_start.computes (key ++ low iv) (all ∙ sym start_inputs)
    ∙ ap₂ started (take_at key (low iv) 80 size) (drop_at key (low iv) 80 size)

stream_values : (held : Registers Bool) (block : List ℕ) → 288 ≤ length held.state →
    map (input_value held) (each State 288 ++ map Plain (low block)) ≡ take 288 held.state ++ low block
stream_values held block enough =
    map-append (input_value held) (each State 288) (map Plain (low block))
    ∙ ap₂ (λ (l r : List Bool). l ++ r) (map-each (input_value held) State 288 ∙ each-take held.state 288 false enough)
    (map-map (input_value held) Plain (low block) ∙ map-id (low block))

-- a step makes the next state, and behind it the block with the bits that the clocks output
pub stream_value : (held : Registers Bool) (block : List ℕ) → 288 ≤ length held.state → length block ≡ 8 →
    step_value held (stream_step block) ≡ clocks 64 (take 288 held.state) ++ xor_bits (outputs 64 (take 288 held.state)) (low block)
unfolding step_of_bits
stream_value held block enough eight =
    let state = take 288 held.state in
    let size : length state ≡ 288 = length-take-le 288 held.state enough in
    let all : length (state ++ low block) ≡ 352 = length-append state (low block) ∙ (let e = length-low block in omega arith) in
    ap (plain named_step) (stream_values held block enough)
    ∙ IsCipherCircuit-named_step.computes (state ++ low block) (all ∙ sym step_inputs)
    ∙ ap₂ (λ (s bs : List Bool). clocks 64 s ++ xor_bits (outputs 64 s) bs)
    (take_at state (low block) 288 size) (drop_at state (low block) 288 size)

length-start_value : (held : Registers Bool) (iv : List ℕ) → length (step_value held (start_step iv)) ≡ 288
length-start_value held iv = length-map named_start.outputs (value_at _) ∙ start_outputs

pub length-stream_value : (held : Registers Bool) (block : List ℕ) → length (step_value held (stream_step block)) ≡ 352
length-stream_value held block = length-map named_step.outputs (value_at _) ∙ step_outputs

-- MANY STEPS

-- the registers behind the step of a block
abbrev behind_block : Registers Bool → List ℕ → Registers Bool
behind_block held block = record { key = held.key; state = step_value held (stream_step block) }

streams_keep_key : (held : Registers Bool) (parts : List (List ℕ)) → (value_after held (map stream_step parts)).key ≡ held.key
unfolding value_after
streams_keep_key held [] = refl
streams_keep_key held (block ∷ parts) = streams_keep_key (behind_block held block) parts

streams_keep_long : (held : Registers Bool) (parts : List (List ℕ)) → length held.state ≡ 352 →
    length (value_after held (map stream_step parts)).state ≡ 352
unfolding value_after
streams_keep_long held [] long = long
streams_keep_long held (block ∷ parts) long = streams_keep_long (behind_block held block) parts (length-stream_value held block)

some_streams_are_long : (held : Registers Bool) (parts : List (List ℕ)) → 0 < length parts →
    length (value_after held (map stream_step parts)).state ≡ 352
unfolding value_after
some_streams_are_long held [] some = absurd (omega arith)
some_streams_are_long held (block ∷ parts) some =
    streams_keep_long (behind_block held block) parts (length-stream_value held block)

-- they clock the state, 64 clocks for each block
streams_clock : (held : Registers Bool) (parts : List (List ℕ)) → 288 ≤ length held.state →
    All (λ block. length block ≡ 8) parts →
    take 288 (value_after held (map stream_step parts)).state ≡ clocks (64 * length parts) (take 288 held.state)
unfolding value_after clocks
streams_clock held [] enough all = refl
streams_clock held (block ∷ parts) enough all =
    let state = take 288 held.state in
    let next = behind_block held block in
    let long : length next.state ≡ 352 = length-stream_value held block in
    let size : length (clocks 64 state) ≡ 288 = length-clocks 64 state (length-take-le 288 held.state enough) in
    let once : take 288 next.state ≡ clocks 64 state
    = ap (take 288) (stream_value held block enough (all 0 [] (omega arith))) ∙ take_at (clocks 64 state) _ 288 size in
    let e : 64 + 64 * length parts ≡ 64 * suc (length parts) = omega arith in
    streams_clock next parts (omega arith) (All-tail (λ b. length b ≡ 8) block parts all)
    ∙ ap (clocks (64 * length parts)) once
    ∙ sym (clocks-add 64 (64 * length parts) state)
    ∙ ap (λ (n : ℕ). clocks n state) e

-- WHAT GOES AHEAD

abbrev behind_ahead : List ℕ → Registers Bool → ℕ → Registers Bool
behind_ahead iv held n = value_after held (ahead iv n)

ahead_keeps_key : (iv : List ℕ) (held : Registers Bool) (n : ℕ) → (behind_ahead iv held n).key ≡ held.key
unfolding value_after
ahead_keeps_key iv held n = go (n == 0)
  where
    go : (none : Bool) → (value_after held (cond none (start_step iv ∷ []) [])).key ≡ held.key
    go true = refl
    go false = refl

-- behind it the state is there
pub record IsReady (iv : List ℕ) (held : Registers Bool) (n : ℕ) (now : Registers Bool) : Type 0 where
  pub enough : 288 ≤ length now.state
  pub state : take 288 now.state ≡ state_at iv held n

pub ahead_is_ready : (iv : List ℕ) (held : Registers Bool) (n : ℕ) → length iv ≡ 10 → IsHeldBehind n held →
    IsReady iv held n (behind_ahead iv held n)
unfolding value_after
ahead_is_ready iv held n ten is = record { enough = enough (n == 0) refl; state = state (n == 0) }
  where
    enough : (none : Bool) → (n == 0) ≡ none → 288 ≤ length (value_after held (cond none (start_step iv ∷ []) [])).state
    enough true first = omega (arith, length-start_value held iv)
    enough false later = let ne : n ≡ 0 → ⊥ = eqb-false n 0 later in omega (arith, is.state (omega arith))

    state : (none : Bool) →
        take 288 (value_after held (cond none (start_step iv ∷ []) [])).state
        ≡ cond none (started (take 80 held.key) (low iv)) (take 288 held.state)
    state true =
        ap (take 288) (start_value held iv is.key ten)
        ∙ take_all 288 (started (take 80 held.key) (low iv)) (omega (
          arith,
          length-started (take 80 held.key) (low iv) (length-take-le 80 held.key (omega (arith, is.key)))
              (omega (arith, length-low iv)),
        ))
    state false = refl

pub length-state_at : (iv : List ℕ) (held : Registers Bool) (n : ℕ) → length iv ≡ 10 → IsHeldBehind n held →
    length (state_at iv held n) ≡ 288
length-state_at iv held n ten is =
    let ready = ahead_is_ready iv held n ten is in
    ap length (sym ready.state) ∙ length-take-le 288 (behind_ahead iv held n).state ready.enough

-- A RUN GOES ON

-- behind what goes ahead come the steps of the blocks
pub values_of_some : (iv : List ℕ) (held : Registers Bool) (n : ℕ) (piece : List ℕ) → 0 < length piece →
    value_after held (steps_behind iv n piece) ≡ value_after (behind_ahead iv held n) (map stream_step (blocks 8 piece))
values_of_some iv held n piece some =
    ap (value_after held) (steps_of_some iv n piece some ∙ ap (λ (l : List Step). ahead iv n ++ l) (block_steps-map piece))
    ∙ value_after-append held (ahead iv n) (map stream_step (blocks 8 piece))

key_stays : (iv : List ℕ) (held : Registers Bool) (n : ℕ) (piece : List ℕ) →
    (value_after held (steps_behind iv n piece)).key ≡ held.key
unfolding value_after
key_stays iv held n [] = refl
key_stays iv held n (byte ∷ more) =
    ap (λ (now : Registers Bool). now.key) (values_of_some iv held n (byte ∷ more) (omega arith))
    ∙ streams_keep_key (behind_ahead iv held n) (blocks 8 (byte ∷ more))
    ∙ ahead_keeps_key iv held n

some_are_long : (iv : List ℕ) (held : Registers Bool) (n : ℕ) (piece : List ℕ) → 0 < length piece →
    length (value_after held (steps_behind iv n piece)).state ≡ 352
some_are_long iv held n piece some =
    ap (λ (now : Registers Bool). length now.state) (values_of_some iv held n piece some)
    ∙ some_streams_are_long (behind_ahead iv held n) (blocks 8 piece)
    (let e = length-each (block_at 8 piece) (block_count 8 (length piece)) in omega arith)

held_behind : (iv : List ℕ) (held : Registers Bool) (n : ℕ) (piece : List ℕ) → IsHeldBehind n held →
    IsHeldBehind (n + length piece) (value_after held (steps_behind iv n piece))
unfolding value_after
held_behind iv held n [] is = record { key = is.key; state = λ some. is.state (omega arith) }
held_behind iv held n (byte ∷ more) is = record {
  key = ap length (key_stays iv held n (byte ∷ more)) ∙ is.key;
  state = λ some. some_are_long iv held n (byte ∷ more) (omega arith);
}

pub held_first : (key : List ℕ) → length key ≡ 10 → IsHeldBehind 0 (with_key key)
held_first key ten = record { key = length-low key ∙ ap (λ (n : ℕ). 8 * n) ten; state = λ some. absurd (omega arith) }

pub registers_go_on : RegistersGoOn
registers_go_on = record {
  key_stays = key_stays;
  first = held_first;
  held = held_behind;
  joins = λ iv held n front piece whole.
      ap (value_after held) (steps-append iv n front piece whole)
      ∙ value_after-append held (steps_behind iv n front) (steps_behind iv (n + length front) piece);
}

-- THE STATE BEHIND WHOLE BLOCKS

pub state_behind : (key iv front : List ℕ) → length key ≡ 10 → length iv ≡ 10 → length front % 8 ≡ 0 →
    state_at iv (value_after (with_key key) (steps_behind iv 0 front)) (length front)
    ≡ clocks (8 * length front) (started (low key) (low iv))
unfolding value_after clocks
state_behind key iv [] ten ten' whole = ap (λ bits. started bits (low iv)) (take_all 80 (low key) (omega (arith, length-low key)))
state_behind key iv (byte ∷ more) ten ten' whole =
    let front = byte ∷ more in
    let held = with_key key in
    let now = value_after held (steps_behind iv 0 front) in
    let ready = ahead_is_ready iv held 0 ten' (held_first key ten) in
    let count : 64 * length (blocks 8 front) ≡ 8 * length front
    = ap (λ (n : ℕ). 64 * n) (length-each (block_at 8 front) (block_count 8 (length front))) ∙ omega arith in
    ap (λ (b : Bool). cond b (started (take 80 now.key) (low iv)) (take 288 now.state))
    (ne_eqb (length front) 0 (λ e. omega arith))
    ∙ ap (λ (r : Registers Bool). take 288 r.state) (values_of_some iv held 0 front (omega arith))
    ∙ streams_clock (behind_ahead iv held 0) (blocks 8 front) ready.enough (blocks_are_long 8 front)
    ∙ ap₂ (λ (n : ℕ) (s : List Bool). clocks n s) count ready.state
    ∙ ap (λ bits. clocks (8 * length front) (started bits (low iv))) (take_all 80 (low key) (omega (arith, length-low key)))
