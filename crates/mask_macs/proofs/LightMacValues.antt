-- What the steps of LightMAC compute: V as a number, and the registers behind them.
use Rattle.std.proofs.Common.{◌≡◌, ℕ, zero, suc, ◌+◌, ◌-◌, ◌*◌, ◌/◌, ◌%◌, ◌≤◌, ◌==◌, Bool, true, false, cond, List, [], ◌∷◌, ◌++◌, map, length, take, drop, drop-drop, refl, ap, ap₂, sym, ◌∙◌, arith, length-append, length-drop, take-append-drop, ne_eqb}
use Rattle.std.proofs.Math.Nat.{zero-div}
use Rattle.std.proofs.lemmas.List.{drop_at, length-map, length-take-le, take_all, take_at}
use Rattle.mask_bits.specs.Reading.{high, number}
use Rattle.mask_circuit.specs.Value.{plain, value_at as wire_value}
use Rattle.mask_circuit.specs.Wires.{each}
use Rattle.mask_tasks.specs.declared.sizes.KeySize.{KeySize}
use Rattle.mask_tasks.specs.declared.sizes.KeySize.TheVariants.{K80, K128}
use Rattle.mask_tasks.specs.Sizes.{present_bytes}
use Rattle.mask_present.specs.Present.{register}
use Rattle.mask_lightmac.specs.LightMac.{absorbed, counted, finished, number_of, padded, value_after as value_of_code}
use Rattle.mask_lightmac.specs.NamedLightMac.{named_end, named_step}
use Rattle.mask_lightmac.proofs.Concluding.{IsCipherCircuit-named_end, IsCipherCircuit-named_step, number-end_of_bits, number-step_of_bits}
use Rattle.mask_lightmac.proofs.Tags.{length-high}
use Rattle.mask_trace.specs.Steps.{Plain, Key, AsKey, Registers, Step}
use Rattle.mask_trace.specs.Values.{input_value, step_value, value_after}
use Rattle.mask_trace.proofs.Beginnings.{value_after-append}
use Rattle.mask_macs.specs.Codes.{IsCounterLength, IsHeldBehind, lightmac_code}
use Rattle.mask_macs.specs.LightMacRuns.{ahead, counted_bytes, end_step, fed_steps, key_width, next_steps, piece_step, refresh_step, value_at, value_bits, with_key}
use Rattle.mask_macs.proofs.LightMacPlans.{end_inputs, end_outputs, piece_at-front, piece_at-next, plans_split, some_bytes, step_inputs, step_outputs}
use Rattle.mask_macs.proofs.LightMacRows.{counted_is_long, padded_is_long, value_is}
use Rattle.mask_macs.proofs.Messages.{PiecesGoOn, fed_is_held}
use Rattle.mask_macs.proofs.Pieces.{by_pieces, count-more}
use Rattle.mask_macs.proofs.Refreshes.{refresh_value}
use Rattle.mask_macs.proofs.Rows.{first_key_values, last_key_values, plain_values, row_values}

-- ONE STEP

-- the register of PRESENT is as wide as K1, and as K2
width_is : (size : KeySize) → (register size).width ≡ key_width size
width_is K80 = refl
width_is K128 = refl

-- Bits of these lengths one behind another, and where each of them begins.
pub record StandInRow (w : ℕ) (xs ys zs : List Bool) : Type 0 where
  pub all : length (xs ++ (ys ++ zs)) ≡ w + 128
  pub first : take w (xs ++ (ys ++ zs)) ≡ xs
  pub second : take 64 (drop w (xs ++ (ys ++ zs))) ≡ ys
  pub third : take 64 (drop (w + 64) (xs ++ (ys ++ zs))) ≡ zs

stand_in_row : (w : ℕ) (xs ys zs : List Bool) → length xs ≡ w → length ys ≡ 64 → length zs ≡ 64 → StandInRow w xs ys zs
stand_in_row w xs ys zs x_long y_long z_long =
    let all = xs ++ (ys ++ zs) in
    let rest : drop w all ≡ ys ++ zs = drop_at xs (ys ++ zs) w x_long in
    record {
      all = length-append xs (ys ++ zs) ∙ (let e = length-append ys zs in omega arith);
      first = take_at xs (ys ++ zs) w x_long;
      second = ap (take 64) rest ∙ take_at ys zs 64 y_long;
      third = ap (take 64) (sym (drop-drop 64 w all) ∙ ap (drop 64) rest ∙ drop_at ys zs 64 y_long) ∙ take_all 64 zs (omega arith);
    }

module _ (size : KeySize) (s tag : ℕ) (is : IsCounterLength s) where
  -- a piece that isn't the last is absorbed
  piece_value : (held : Registers Bool) (n : ℕ) (piece : List ℕ) → IsHeldBehind (lightmac_code size s tag) n held →
      length piece ≡ 8 - s →
      number (step_value held (piece_step size s n piece))
      ≡ absorbed size (number (take (key_width size) held.key)) (value_at held n) (number_of (counted_bytes s n piece))
  piece_value held n piece holds size_is =
      let key_long = holds.key in
      let w = (register size).width in
      let k1 = take (key_width size) held.key in
      let message = high (counted_bytes s n piece) in
      let v = map (input_value held) (value_bits n) in
      let v_is = value_is held n holds.state in
      let long : length k1 ≡ w = length-take-le (key_width size) held.key (omega arith) ∙ sym (width_is size) in
      let row = stand_in_row w k1 message v long (counted_is_long s n piece is size_is) v_is.long in
      let inputs = row_values held (each Key (key_width size)) (map Plain message ++ value_bits n) _ _
      (first_key_values held (key_width size) (omega arith))
      (row_values held (map Plain message) (value_bits n) _ _ (plain_values held message) refl) in
      let enough : length (k1 ++ (message ++ v)) ≡ (named_step size).inputs
      = row.all ∙ ap (λ (a : ℕ). a + 128) (width_is size) ∙ sym (step_inputs size) in
      ap number
      (ap (plain (named_step size)) inputs ∙ (IsCipherCircuit-named_step size).computes (k1 ++ (message ++ v)) enough)
      ∙ number-step_of_bits size (k1 ++ (message ++ v)) row.all
      ∙ ap₂ (λ (k b : List Bool). absorbed size (number k) (number (take 64 (drop (w + 64) (k1 ++ (message ++ v))))) (number b)) row.first row.second
      ∙ ap (λ (bits : List Bool). absorbed size (number k1) (number bits) (number message)) row.third
      ∙ ap (λ (a : ℕ). absorbed size (number k1) a (number message)) v_is.is

  -- the last one finishes the code
  end_value : (held : Registers Bool) (n : ℕ) (piece : List ℕ) → IsHeldBehind (lightmac_code size s tag) n held →
      length piece ≤ 8 - s →
      number (step_value held (end_step size n piece))
      ≡ finished size (number (drop (key_width size) held.key)) (value_at held n) (number_of (padded piece))
  end_value held n piece holds few =
      let key_long = holds.key in
      let w = (register size).width in
      let k2 = drop (key_width size) held.key in
      let message = high (padded piece) in
      let v = map (input_value held) (value_bits n) in
      let v_is = value_is held n holds.state in
      let long : length k2 ≡ w = omega (arith, length-drop (key_width size) held.key, width_is size) in
      let row = stand_in_row w k2 v message long v_is.long (padded_is_long s piece is few) in
      let inputs = row_values held (each (λ j. Key (key_width size + j)) (key_width size)) (value_bits n ++ map Plain message) _ _
      (last_key_values held (key_width size) (key_width size) (omega arith))
      (row_values held (value_bits n) (map Plain message) _ _ refl (plain_values held message)) in
      let enough : length (k2 ++ (v ++ message)) ≡ (named_end size).inputs
      = row.all ∙ ap (λ (a : ℕ). a + 128) (width_is size) ∙ sym (end_inputs size) in
      ap number
      (ap (plain (named_end size)) inputs ∙ (IsCipherCircuit-named_end size).computes (k2 ++ (v ++ message)) enough)
      ∙ number-end_of_bits size (k2 ++ (v ++ message)) row.all
      ∙ ap₂ (λ (k a : List Bool). finished size (number k) (number a) (number (take 64 (drop (w + 64) (k2 ++ (v ++ message)))))) row.first row.second
      ∙ ap (λ (bits : List Bool). finished size (number k2) (number v) (number bits)) row.third
      ∙ ap (λ (a : ℕ). finished size (number k2) a (number message)) v_is.is

  -- THE STEPS OF A PIECE

  -- what goes ahead changes no bit
  refreshed : (held : Registers Bool) → key_width size ≤ length held.key → value_after held (refresh_step size ∷ []) ≡ held
  unfolding value_after
  refreshed held enough =
      let w = key_width size in
      let outputs = step_value held (refresh_step size) in
      let first : outputs ≡ take w held.key = refresh_value held w AsKey enough in
      let count : length outputs ≡ w = ap length first ∙ length-take-le w held.key enough in
      ap (λ (key : List Bool). record { key = key; state = held.state })
      (ap₂ (λ (bits : List Bool) (n : ℕ). bits ++ drop n held.key) first count ∙ take-append-drop w held.key)

  ahead_changes_nothing : (held : Registers Bool) (n : ℕ) (last : Bool) → IsHeldBehind (lightmac_code size s tag) n held →
      value_after held (ahead size n last) ≡ held
  unfolding value_after
  ahead_changes_nothing held n true holds = refl
  ahead_changes_nothing held n false holds = go (n == 0)
    where
      go : (none : Bool) → value_after held (cond none [] (refresh_step size ∷ [])) ≡ held
      go true = refl
      go false = refreshed held (omega (arith, holds.key))

  -- the own step of the next piece
  abbrev own_step : ℕ → List ℕ → Bool → Step
  own_step n piece false = piece_step size s n piece
  own_step n piece true = end_step size n piece

  -- the registers behind the steps of a piece
  pub next_held : (held : Registers Bool) (n : ℕ) (piece : List ℕ) (last : Bool) → IsHeldBehind (lightmac_code size s tag) n held →
      value_after held (next_steps size s n piece last)
      ≡ record { key = held.key; state = step_value held (own_step n piece last) }
  unfolding value_after
  next_held held n piece false holds =
      value_after-append held (ahead size n false) (piece_step size s n piece ∷ [])
      ∙ ap (λ (r : Registers Bool). record { key = r.key; state = step_value r (piece_step size s n piece) })
      (ahead_changes_nothing held n false holds)
  next_held held n piece true holds = refl

  -- A RUN GOES ON

  state_is_long : (held : Registers Bool) (n : ℕ) (piece : List ℕ) (last : Bool) →
      length (value_after held (next_steps size s n piece last)).state ≡ 64
  unfolding value_after
  state_is_long held n piece false =
      ap (λ (r : Registers Bool). length r.state) (value_after-append held (ahead size n false) (piece_step size s n piece ∷ []))
      ∙ length-map (named_step size).outputs (wire_value _)
      ∙ step_outputs size
  state_is_long held n piece true = length-map (named_end size).outputs (wire_value _) ∙ end_outputs size

  -- a key of these bytes has so many bits
  length-halves : (key : List ℕ) → length key ≡ present_bytes size + present_bytes size →
      length (with_key size key).key ≡ 8 * (present_bytes size + present_bytes size)
  length-halves key long =
      let p = present_bytes size in
      let first = length-high (take p key) in
      let second = length-high (drop p key) in
      length-append (high (take p key)) (high (drop p key))
      ∙ omega (arith, first, second, length-take-le p key (omega arith), length-drop p key)

  pub pieces_go_on : PiecesGoOn (lightmac_code size s tag)
  pieces_go_on = record {
    some = some_bytes size s is;
    split = plans_split size s is tag;
    first = λ key long. record { key = length-halves key long; state = λ some. absurd (omega arith) };
    key_stays = λ held n piece last holds next. ap (λ (r : Registers Bool). r.key) (next_held held n piece last holds);
    state = state_is_long;
  }

  -- V

  -- behind one piece more
  pub more_value : (held : Registers Bool) (n : ℕ) (piece : List ℕ) → IsHeldBehind (lightmac_code size s tag) n held →
      length piece ≡ 8 - s →
      number (value_after held (next_steps size s n piece false)).state
      ≡ absorbed size (number (take (key_width size) held.key)) (value_at held n) (number_of (counted_bytes s n piece))
  more_value held n piece holds long =
      ap (λ (r : Registers Bool). number r.state) (next_held held n piece false holds) ∙ piece_value held n piece holds long

  -- and behind the last
  pub last_value : (held : Registers Bool) (n : ℕ) (piece : List ℕ) → IsHeldBehind (lightmac_code size s tag) n held →
      length piece ≤ 8 - s →
      number (value_after held (next_steps size s n piece true)).state
      ≡ finished size (number (drop (key_width size) held.key)) (value_at held n) (number_of (padded piece))
  last_value held n piece holds few =
      ap (λ (r : Registers Bool). number r.state) (next_held held n piece true holds) ∙ end_value held n piece holds few

  -- V behind the first pieces stays what it is, whatever comes behind
  pub value-front : (k1 : ℕ) (front rest : List ℕ) (n : ℕ) → n ≤ length front / (8 - s) →
      value_of_code size s k1 (front ++ rest) n ≡ value_of_code size s k1 front n
  unfolding value_of_code
  value-front k1 front rest zero within = refl
  value-front k1 front rest (suc n) within =
      ap₂ (λ (v : ℕ) (piece : List ℕ). absorbed size k1 v (counted s (suc n) piece)) (value-front k1 front rest n (omega arith))
      (piece_at-front size s is front rest n (omega arith))

  -- one piece more
  value-more : (k1 : ℕ) (front piece : List ℕ) → length front % (8 - s) ≡ 0 → length piece ≡ 8 - s →
      value_of_code size s k1 (front ++ piece) (length (front ++ piece) / (8 - s))
      ≡ absorbed size k1 (value_of_code size s k1 front (length front / (8 - s))) (number_of (counted_bytes s (length front) piece))
  unfolding value_of_code counted
  value-more k1 front piece whole long =
      ap (value_of_code size s k1 (front ++ piece)) (count-more (8 - s) (some_bytes size s is) front piece whole long)
      ∙ ap₂ (λ (v : ℕ) (bytes : List ℕ). absorbed size k1 v (counted s (suc (length front / (8 - s))) bytes))
      (value-front k1 front piece (length front / (8 - s)) (omega arith)) (piece_at-next size s is front piece whole long)

  module _ (key : List ℕ) (long : length key ≡ present_bytes size + present_bytes size) where
    -- K1 and K2 in the key that is held
    halves : length (high (take (present_bytes size) key)) ≡ key_width size
    halves =
        length-high (take (present_bytes size) key) ∙ ap (λ (n : ℕ). 8 * n) (length-take-le (present_bytes size) key (omega arith))

    pub first_half : take (key_width size) (with_key size key).key ≡ high (take (present_bytes size) key)
    first_half = take_at (high (take (present_bytes size) key)) (high (drop (present_bytes size) key)) (key_width size) halves

    pub second_half : drop (key_width size) (with_key size key).key ≡ high (drop (present_bytes size) key)
    second_half = drop_at (high (take (present_bytes size) key)) (high (drop (present_bytes size) key)) (key_width size) halves

    abbrev behind : List ℕ → Registers Bool
    behind front = value_after (with_key size key) (fed_steps size s front)

    abbrev k1 : ℕ
    k1 = number_of (take (present_bytes size) key)

    -- what is held behind whole pieces is V there
    abbrev HoldsValue : List ℕ → Type 0
    HoldsValue front = value_at (behind front) (length front) ≡ value_of_code size s k1 front (length front / (8 - s))

    none_value : HoldsValue []
    unfolding value_of_code
    none_value = sym (ap (value_of_code size s k1 []) (zero-div (8 - s)))

    more_held : (front piece : List ℕ) → length front % (8 - s) ≡ 0 → length piece ≡ 8 - s → HoldsValue front → HoldsValue (front ++ piece)
    more_held front piece whole size_is was =
        let fed = fed_is_held (lightmac_code size s tag) pieces_go_on key long front whole in
        let now = behind (front ++ piece) in
        let some = some_bytes size s is in
        let ne : length (front ++ piece) ≡ 0 → ⊥ = λ e. omega (arith, length-append front piece) in
        ap (λ (b : Bool). cond b 0 (number now.state)) (ne_eqb (length (front ++ piece)) 0 ne)
        ∙ ap (λ (r : Registers Bool). number r.state)
        (ap (value_after (with_key size key)) ((plans_split size s is tag).on front piece whole size_is)
        ∙ value_after-append (with_key size key) (fed_steps size s front) (next_steps size s (length front) piece false))
        ∙ more_value (behind front) (length front) piece fed.0 size_is
        ∙ ap₂ (λ (bits : List Bool) (v : ℕ). absorbed size (number bits) v (number_of (counted_bytes s (length front) piece)))
        (ap (take (key_width size)) fed.1 ∙ first_half) was
        ∙ sym (value-more k1 front piece whole size_is)

    pub value_behind : (front : List ℕ) → length front % (8 - s) ≡ 0 → HoldsValue front
    value_behind = by_pieces (8 - s) (some_bytes size s is) HoldsValue none_value more_held
