-- What the steps of Chaskey compute: the state of the code as a number, and the registers behind them.
use Rattle.std.proofs.Common.{◌≡◌, ℕ, zero, suc, ◌*◌, ◌/◌, ◌%◌, ◌<◌, ◌≤◌, ◌==◌, Bool, true, false, cond, List, [], ◌∷◌, ◌++◌, map, length, take, drop, drop-drop, refl, ap, ap₂, sym, ◌∙◌, arith, length-append, ne_eqb}
use Rattle.std.proofs.lemmas.Bool.{eqb-false}
use Rattle.std.proofs.lemmas.List.{drop_at, length-map, take_all, take_at}
use Rattle.mask_bits.specs.Reading.{low, number}
use Rattle.mask_bits.proofs.Bytes.{length-low}
use Rattle.mask_circuit.specs.Value.{plain, value_at}
use Rattle.mask_circuit.specs.Wires.{each}
use Rattle.mask_parts.specs.Turns.{in_turn}
use Rattle.mask_chaskey.specs.declared.doubling.End.{End}
use Rattle.mask_chaskey.specs.Chaskey.{absorbed, block_at, end_of, finished, number_of, padded}
use Rattle.mask_chaskey.specs.NamedChaskey.{named_end, named_step}
use Rattle.mask_chaskey.proofs.Concluding.{IsCipherCircuit-named_end, IsCipherCircuit-named_step, number-end_of_bits, number-step_of_bits}
use Rattle.mask_trace.specs.Steps.{Plain, Key, State, Registers, Step, AsState}
use Rattle.mask_trace.specs.Values.{step_value, value_after}
use Rattle.mask_trace.proofs.Beginnings.{value_after-append}
use Rattle.mask_streams.specs.Streams.{with_key}
use Rattle.mask_macs.specs.ChaskeyRuns.{ahead, block_step, end_step, fed_steps, next_steps, start_step, state_at}
use Rattle.mask_macs.specs.Codes.{IsHeldBehind, IsNext, chaskey_code}
use Rattle.mask_macs.proofs.ChaskeyBlocks.{length-padded_alone}
use Rattle.mask_macs.proofs.ChaskeyPlans.{end_inputs, end_outputs, plans_split, step_inputs, step_outputs}
use Rattle.mask_macs.proofs.Messages.{PiecesGoOn, fed_is_held}
use Rattle.mask_macs.proofs.Pieces.{by_pieces, count-more, piece_of-front, piece_of-next}
use Rattle.mask_macs.proofs.Refreshes.{refresh_value}
use Rattle.mask_macs.proofs.Rows.{key_values, plain_values, row_values, state_values}

-- ONE STEP

-- the start hands on the key
start_value : (held : Registers Bool) → length held.key ≡ 128 → step_value held start_step ≡ held.key
start_value held long = refresh_value held 128 AsState (omega arith) ∙ take_all 128 held.key (omega arith)

-- a block that isn't the last is absorbed
pub block_value : (held : Registers Bool) (block : List ℕ) → length held.state ≡ 128 → length block ≡ 16 →
    number (step_value held (block_step block)) ≡ absorbed (number held.state) (number_of block)
block_value held block long size =
    let message = low block in
    let all : length (held.state ++ message) ≡ 256
    = length-append held.state message ∙ (let e = length-low block in omega arith) in
    let inputs = row_values held (each State 128) (map Plain message) _ _ (state_values held 128 long) (plain_values held message) in
    ap number
    (ap (plain named_step) inputs ∙ IsCipherCircuit-named_step.computes (held.state ++ message) (all ∙ sym step_inputs))
    ∙ number-step_of_bits (held.state ++ message) all
    ∙ ap₂ (λ (s bs : List Bool). absorbed (number s) (number bs))
    (take_at held.state message 128 long) (drop_at held.state message 128 long)

-- the last one finishes the code
pub end_value : (held : Registers Bool) (end : End) (bytes : List ℕ) → length held.key ≡ 128 → length held.state ≡ 128 →
    length (padded end bytes) ≡ 16 →
    number (step_value held (end_step end bytes))
    ≡ finished end (number held.key) (number held.state) (number_of (padded end bytes))
end_value held end bytes key_long long size =
    let message = low (padded end bytes) in
    let others = held.key ++ message in
    let x = held.state ++ others in
    let all : length x ≡ 384
    = length-append held.state others
    ∙ (let e = length-append held.key message in let e' = length-low (padded end bytes) in omega arith) in
    let inputs = row_values held (each State 128) (each Key 128 ++ map Plain message) _ _ (state_values held 128 long)
    (row_values held (each Key 128) (map Plain message) _ _ (key_values held 128 key_long) (plain_values held message)) in
    let behind : drop 128 x ≡ others = drop_at held.state others 128 long in
    let last : drop 256 x ≡ message
    = sym (drop-drop 128 128 x) ∙ ap (drop 128) behind ∙ drop_at held.key message 128 key_long in
    ap number
    (ap (plain (named_end end)) inputs ∙ (IsCipherCircuit-named_end end).computes x (all ∙ sym (end_inputs end)))
    ∙ number-end_of_bits end x all
    ∙ ap₂ (λ (s bs : List Bool). finished end (number (take 128 (drop 128 x))) (number s) (number bs))
    (take_at held.state others 128 long) last
    ∙ ap (λ (k : List Bool). finished end (number k) (number held.state) (number message))
    (ap (take 128) behind ∙ take_at held.key message 128 key_long)

-- THE STEPS OF A PIECE

-- the own step of the next piece
abbrev own_step : List ℕ → Bool → Step
own_step piece false = block_step piece
own_step piece true = end_step (end_of piece) piece

-- what is held behind what goes ahead
abbrev pub ready : Registers Bool → ℕ → Registers Bool
ready held n = value_after held (ahead n)

-- the registers behind the steps of a piece
next_held : (held : Registers Bool) (n : ℕ) (piece : List ℕ) (last : Bool) →
    value_after held (next_steps n piece last)
    ≡ record { key = (ready held n).key; state = step_value (ready held n) (own_step piece last) }
unfolding value_after
next_held held n piece false = value_after-append held (ahead n) (block_step piece ∷ [])
next_held held n piece true = value_after-append held (ahead n) (end_step (end_of piece) piece ∷ [])

-- behind what goes ahead there are the key and the state of the code
pub record IsReady (held : Registers Bool) (n : ℕ) (now : Registers Bool) : Type 0 where
  pub same_key : now.key ≡ held.key
  pub key : length now.key ≡ 128
  pub state : length now.state ≡ 128
  pub is : number now.state ≡ state_at held n

pub ahead_is_ready : (tag : ℕ) (held : Registers Bool) (n : ℕ) → IsHeldBehind (chaskey_code tag) n held → IsReady held n (ready held n)
unfolding value_after
ahead_is_ready tag held n holds = go (n == 0) refl
  where
    go : (none : Bool) → (n == 0) ≡ none → IsReady held n (value_after held (cond none (start_step ∷ []) []))
    go true first = record {
      same_key = refl;
      key = holds.key;
      state = ap length (start_value held holds.key) ∙ holds.key;
      is = ap number (start_value held holds.key) ∙ sym (ap (λ (b : Bool). cond b (number held.key) (number held.state)) first);
    }
    go false later =
        let ne : n ≡ 0 → ⊥ = eqb-false n 0 later in
        record {
          same_key = refl;
          key = holds.key;
          state = holds.state (omega arith);
          is = sym (ap (λ (b : Bool). cond b (number held.key) (number held.state)) later);
        }

-- A RUN GOES ON

key_stays : (tag : ℕ) (held : Registers Bool) (n : ℕ) (piece : List ℕ) (last : Bool) → IsHeldBehind (chaskey_code tag) n held →
    IsNext (chaskey_code tag) n piece last → (value_after held (next_steps n piece last)).key ≡ held.key
key_stays tag held n piece last holds next =
    ap (λ (r : Registers Bool). r.key) (next_held held n piece last) ∙ (ahead_is_ready tag held n holds).same_key

state_is_long : (held : Registers Bool) (n : ℕ) (piece : List ℕ) (last : Bool) →
    length (value_after held (next_steps n piece last)).state ≡ 128
state_is_long held n piece false =
    ap (λ (r : Registers Bool). length r.state) (next_held held n piece false)
    ∙ length-map named_step.outputs (value_at _)
    ∙ step_outputs
state_is_long held n piece true =
    ap (λ (r : Registers Bool). length r.state) (next_held held n piece true)
    ∙ length-map (named_end (end_of piece)).outputs (value_at _)
    ∙ end_outputs (end_of piece)

pub pieces_go_on : (tag : ℕ) → PiecesGoOn (chaskey_code tag)
pieces_go_on tag = record {
  some = omega arith;
  split = plans_split tag;
  first = λ key long. record { key = length-low key ∙ ap (λ (n : ℕ). 8 * n) long; state = λ some. absurd (omega arith) };
  key_stays = key_stays tag;
  state = state_is_long;
}

-- THE STATE OF THE CODE

-- behind one block more
pub more_value : (tag : ℕ) (held : Registers Bool) (n : ℕ) (piece : List ℕ) → IsHeldBehind (chaskey_code tag) n held →
    length piece ≡ 16 →
    number (value_after held (next_steps n piece false)).state ≡ absorbed (state_at held n) (number_of piece)
more_value tag held n piece holds size =
    let is = ahead_is_ready tag held n holds in
    ap (λ (r : Registers Bool). number r.state) (next_held held n piece false)
    ∙ block_value (ready held n) piece is.state size
    ∙ ap (λ (s : ℕ). absorbed s (number_of piece)) is.is

-- and behind the last
pub last_value : (tag : ℕ) (held : Registers Bool) (n : ℕ) (piece : List ℕ) → IsHeldBehind (chaskey_code tag) n held →
    length piece ≤ 16 →
    number (value_after held (next_steps n piece true)).state
    ≡ finished (end_of piece) (number held.key) (state_at held n) (number_of (padded (end_of piece) piece))
last_value tag held n piece holds few =
    let is = ahead_is_ready tag held n holds in
    ap (λ (r : Registers Bool). number r.state) (next_held held n piece true)
    ∙ end_value (ready held n) (end_of piece) piece is.key is.state (length-padded_alone piece few)
    ∙ ap₂ (λ (k : List Bool) (s : ℕ). finished (end_of piece) (number k) s (number_of (padded (end_of piece) piece))) is.same_key is.is

-- steps in turn that do the same
pub in_turn-same : (f g : ℕ → ℕ → ℕ) (n a : ℕ) → ((i h : ℕ) → i < n → f i h ≡ g i h) → in_turn f n a ≡ in_turn g n a
unfolding in_turn
in_turn-same f g zero a same = refl
in_turn-same f g (suc n) a same =
    same n (in_turn f n a) (omega arith) ∙ ap (g n) (in_turn-same f g n a (λ i h lt. same i h (omega arith)))

-- the state of the code behind the first n blocks of a message
abbrev pub absorbed_all : List ℕ → ℕ → ℕ → ℕ
absorbed_all message n key = in_turn (λ i h. absorbed h (block_at message i)) n key

-- it stays that, whatever comes behind
pub absorbed_all-front : (front rest : List ℕ) (key : ℕ) →
    absorbed_all (front ++ rest) (length front / 16) key ≡ absorbed_all front (length front / 16) key
unfolding block_at
absorbed_all-front front rest key =
    in_turn-same _ _ (length front / 16) key
    (λ i h lt. ap (λ (block : List ℕ). absorbed h (number_of block)) (piece_of-front 16 (omega arith) front rest i lt))

-- one block more
absorbed_all-more : (front piece : List ℕ) (key : ℕ) → length front % 16 ≡ 0 → length piece ≡ 16 →
    absorbed_all (front ++ piece) (length (front ++ piece) / 16) key
    ≡ absorbed (absorbed_all front (length front / 16) key) (number_of piece)
unfolding in_turn block_at
absorbed_all-more front piece key whole size =
    ap (λ (n : ℕ). absorbed_all (front ++ piece) n key) (count-more 16 (omega arith) front piece whole size)
    ∙ ap₂ (λ (h : ℕ) (block : List ℕ). absorbed h (number_of block)) (absorbed_all-front front piece key)
    (piece_of-next 16 (omega arith) front piece whole size)

module _ (tag : ℕ) (key : List ℕ) (long : length key ≡ 16) where
  abbrev behind : List ℕ → Registers Bool
  behind front = value_after (with_key key) (fed_steps front)

  -- what is held behind whole blocks is the state of the code there
  abbrev HoldsState : List ℕ → Type 0
  HoldsState front = state_at (behind front) (length front) ≡ absorbed_all front (length front / 16) (number_of key)

  none_state : HoldsState []
  unfolding value_after in_turn
  none_state = refl

  more_state : (front piece : List ℕ) → length front % 16 ≡ 0 → length piece ≡ 16 → HoldsState front → HoldsState (front ++ piece)
  more_state front piece whole size was =
      let fed = fed_is_held (chaskey_code tag) (pieces_go_on tag) key long front whole in
      let now = behind (front ++ piece) in
      let ne : length (front ++ piece) ≡ 0 → ⊥ = λ e. omega (arith, length-append front piece) in
      ap (λ (b : Bool). cond b (number now.key) (number now.state)) (ne_eqb (length (front ++ piece)) 0 ne)
      ∙ ap (λ (r : Registers Bool). number r.state)
      (ap (value_after (with_key key)) ((plans_split tag).on front piece whole size)
      ∙ value_after-append (with_key key) (fed_steps front) (next_steps (length front) piece false))
      ∙ more_value tag (behind front) (length front) piece fed.0 size
      ∙ ap (λ (s : ℕ). absorbed s (number_of piece)) was
      ∙ sym (absorbed_all-more front piece (number_of key) whole size)

  pub state_behind : (front : List ℕ) → length front % 16 ≡ 0 → HoldsState front
  state_behind = by_pieces 16 (omega arith) HoldsState none_state more_state
