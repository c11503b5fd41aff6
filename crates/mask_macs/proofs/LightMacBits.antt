-- How many bits of the tape a run of LightMAC takes.
use Rattle.std.proofs.Common.{◌≡◌, ℕ, zero, suc, ◌+◌, ◌-◌, ◌*◌, ◌/◌, ◌≤◌, ◌<◌, ◌==◌, Bool, true, false, cond, List, [], ◌∷◌, ◌++◌, map, length, refl, ap, ap₂, ◌∙◌, arith, append-nil, ne_eqb}
use Rattle.std.proofs.Math.Nat.{mul-zero}
use Rattle.mask_bits.specs.Reading.{high}
use Rattle.mask_circuit.specs.Wires.{each}
use Rattle.mask_circuit.specs.Expansion.{draws}
use Rattle.mask_parts.specs.CipherCircuits.{gate_bits}
use Rattle.mask_parts.proofs.Drawing.{draws-gates}
use Rattle.mask_tasks.specs.declared.sizes.KeySize.{KeySize}
use Rattle.mask_tasks.specs.declared.sizes.KeySize.TheVariants.{K80, K128}
use Rattle.mask_lightmac.specs.LightMac.{last_piece, padded, piece_at, pieces_before}
use Rattle.mask_lightmac.specs.NamedLightMac.{named_end, named_step, size_end, size_step}
use Rattle.mask_lightmac.proofs.Concluding.{IsCipherCircuit-named_end, IsCipherCircuit-named_step}
use Rattle.mask_trace.specs.Steps.{AsKey, Key, Plain, Step, bits_of, plain_bits, stretch}
use Rattle.mask_trace.proofs.Inputs.{inputs_stand_in_parts}
use Rattle.mask_trace.proofs.Traces.{bits_of-cons, traces_split}
use Rattle.mask_streams.proofs.TapeBits.{plain_bits-behind}
use Rattle.mask_macs.specs.Codes.{IsCounterLength, lightmac_code}
use Rattle.mask_macs.specs.Laws.{RunBits}
use Rattle.mask_macs.specs.LightMacRuns.{ahead, counted_bytes, end_step, key_width, lightmac_bits, lightmac_plan, next_steps, piece_gates, piece_step, piece_steps, refresh_step, value_bits}
use Rattle.mask_macs.proofs.LightMacPlans.{some_bytes}
use Rattle.mask_macs.proofs.LightMacRows.{counted_is_long, padded_is_long, value_no_message}
use Rattle.mask_macs.proofs.Pieces.{count-within, length-last, length-piece_of}
use Rattle.mask_macs.proofs.Refreshes.{stretch-refresh}

-- STEPS

draws-step : (size : KeySize) (d : ℕ) → draws (named_step size) (suc d) ≡ piece_gates size * gate_bits d
draws-step K80 d = draws-gates (named_step K80) (size_step K80) d 5334 (IsCipherCircuit-named_step K80).sized refl
draws-step K128 d = draws-gates (named_step K128) (size_step K128) d 5644 (IsCipherCircuit-named_step K128).sized refl

draws-end : (size : KeySize) (d : ℕ) → draws (named_end size) (suc d) ≡ piece_gates size * gate_bits d
draws-end K80 d = draws-gates (named_end K80) (size_end K80) d 5334 (IsCipherCircuit-named_end K80).sized refl
draws-end K128 d = draws-gates (named_end K128) (size_end K128) d 5644 (IsCipherCircuit-named_end K128).sized refl

-- no message bit is among those of K2
no_message : (m n : ℕ) → plain_bits (each (λ j. Key (m + j)) n) ≡ []
no_message m zero = refl
no_message m (suc n) =
    inputs_stand_in_parts.bits_of_both (each (λ j. Key (m + j)) n) (Key (m + n) ∷ []) ∙ ap (λ (bs : List Bool). bs ++ []) (no_message m n)

module _ (size : KeySize) (s : ℕ) (is : IsCounterLength s) (d : ℕ) where
  -- the bits that a piece draws, be it the last or not, and those of a refresh
  abbrev piece_bits : ℕ
  piece_bits = 64 * d + piece_gates size * gate_bits d

  abbrev refresh_bits : ℕ
  refresh_bits = key_width size * gate_bits d

  -- 64 message bits, and so many gates
  sixty_four : (bits : List Bool) (drawn : ℕ) → length bits ≡ 64 → drawn ≡ piece_gates size * gate_bits d → d * length bits + drawn ≡ piece_bits
  sixty_four bits drawn long e =
      ap₂ (λ (n m : ℕ). d * n + m) long e ∙ ap (λ (n : ℕ). n + piece_gates size * gate_bits d) (omega arith)

  stretch-piece : (n : ℕ) (piece : List ℕ) → length piece ≡ 8 - s → stretch (suc d) (piece_step size s n piece) ≡ piece_bits
  stretch-piece n piece long =
      let message = high (counted_bytes s n piece) in
      let bits : plain_bits (map Plain message ++ value_bits n) ≡ message
      = inputs_stand_in_parts.bits_of_both (map Plain message) (value_bits n)
      ∙ ap₂ (λ (l r : List Bool). l ++ r) (inputs_stand_in_parts.bits_of_plains message) (value_no_message n)
      ∙ append-nil message in
      sixty_four (plain_bits (each Key (key_width size) ++ (map Plain message ++ value_bits n))) (draws (named_step size) (suc d))
      (ap length (plain_bits-behind (each Key (key_width size)) (map Plain message ++ value_bits n) message
      (inputs_stand_in_parts.bits_of_key (key_width size)) bits)
      ∙ counted_is_long s n piece is long)
      (draws-step size d)

  stretch-end : (n : ℕ) (piece : List ℕ) → length piece ≤ 8 - s → stretch (suc d) (end_step size n piece) ≡ piece_bits
  stretch-end n piece few =
      let message = high (padded piece) in
      let keys = each (λ j. Key (key_width size + j)) (key_width size) in
      sixty_four (plain_bits (keys ++ (value_bits n ++ map Plain message))) (draws (named_end size) (suc d))
      (ap length (plain_bits-behind keys (value_bits n ++ map Plain message) message (no_message (key_width size) (key_width size))
      (plain_bits-behind (value_bits n) (map Plain message) message (value_no_message n) (inputs_stand_in_parts.bits_of_plains message)))
      ∙ padded_is_long s piece is few)
      (draws-end size d)

  bits-one : (step : Step) (n : ℕ) → stretch (suc d) step ≡ n → bits_of (suc d) (step ∷ []) ≡ n
  bits-one step n e = bits_of-cons (suc d) step [] ∙ ap (λ (k : ℕ). k + 0) e ∙ omega arith

  -- RUNS

  bits-ahead : (n : ℕ) → bits_of (suc d) (ahead size n false) ≡ cond (n == 0) 0 refresh_bits
  bits-ahead n = go (n == 0)
    where
      go : (none : Bool) → bits_of (suc d) (cond none [] (refresh_step size ∷ [])) ≡ cond none 0 (key_width size * gate_bits d)
      go true = refl
      go false = bits-one (refresh_step size) (key_width size * gate_bits d) (stretch-refresh d (key_width size) AsKey)

  bits-next : (n : ℕ) (piece : List ℕ) → length piece ≡ 8 - s →
      bits_of (suc d) (next_steps size s n piece false) ≡ cond (n == 0) 0 refresh_bits + piece_bits
  bits-next n piece long =
      traces_split.bits (suc d) (ahead size n false) (piece_step size s n piece ∷ [])
      ∙ ap₂ (λ (a b : ℕ). a + b) (bits-ahead n) (bits-one (piece_step size s n piece) piece_bits (stretch-piece n piece long))

  -- ahead of no piece but the first nothing is refreshed
  refreshes : (m : ℕ) → m * piece_bits + (m - 1) * refresh_bits + (cond ((8 - s) * m == 0) 0 refresh_bits + piece_bits)
      ≡ suc m * piece_bits + m * refresh_bits
  refreshes zero =
      ap (λ (k : ℕ). 0 * piece_bits + (0 - 1) * refresh_bits + (cond (k == 0) 0 refresh_bits + piece_bits)) (mul-zero (8 - s)) ∙ omega arith
  refreshes (suc k) =
      let some = some_bytes size s is in
      let more : 0 < (8 - s) * suc k = grind arith in
      let one_less : suc k - 1 ≡ k = omega arith in
      ap₂ (λ (j : ℕ) (b : Bool). suc k * piece_bits + j * refresh_bits + (cond b 0 refresh_bits + piece_bits)) one_less
      (ne_eqb ((8 - s) * suc k) 0 (λ e. omega arith))
      ∙ omega arith

  -- the first m pieces
  bits-pieces : (message : List ℕ) (m : ℕ) → m ≤ length message / (8 - s) →
      bits_of (suc d) (piece_steps size s message m) ≡ m * piece_bits + (m - 1) * refresh_bits
  unfolding piece_at
  bits-pieces message zero within = omega arith
  bits-pieces message (suc m) within =
      let one_less : m ≡ suc m - 1 = omega arith in
      traces_split.bits (suc d) (piece_steps size s message m) (next_steps size s ((8 - s) * m) (piece_at s message m) false)
      ∙ ap₂ (λ (a b : ℕ). a + b) (bits-pieces message m (omega arith))
      (bits-next ((8 - s) * m) (piece_at s message m) (length-piece_of (8 - s) (some_bytes size s is) message m (omega arith)))
      ∙ refreshes m
      ∙ ap (λ (j : ℕ). suc m * piece_bits + j * refresh_bits) one_less

  run_bits_at : (message : List ℕ) → bits_of (suc d) (lightmac_plan size s message) ≡ lightmac_bits size s d (length message)
  unfolding lightmac_bits last_piece pieces_before
  run_bits_at message =
      let m = (length message - 1) / (8 - s) in
      let end = end_step size ((8 - s) * m) (last_piece s message) in
      let one_less : m - 1 ≡ suc m - 2 = omega arith in
      let sum : m * piece_bits + (m - 1) * refresh_bits + piece_bits ≡ suc m * piece_bits + (suc m - 2) * refresh_bits
      = ap (λ (j : ℕ). m * piece_bits + j * refresh_bits + piece_bits) one_less ∙ omega arith in
      traces_split.bits (suc d) (piece_steps size s message m) (end ∷ [])
      ∙ ap₂ (λ (a b : ℕ). a + b) (bits-pieces message m (count-within (8 - s) (some_bytes size s is) (length message)))
      (bits-one end piece_bits (stretch-end ((8 - s) * m) (last_piece s message) (length-last (8 - s) (some_bytes size s is) message)))
      ∙ sum

pub run_bits : (size : KeySize) (s tag : ℕ) → IsCounterLength s → RunBits (lightmac_code size s tag)
run_bits size s tag is d message = run_bits_at size s is d message
