-- The inputs of the steps of LightMAC: the block of a counter and a piece, the last piece with its padding, and V.
use Rattle.std.proofs.Common.{◌≡◌, ℕ, suc, ◌+◌, ◌-◌, ◌/◌, ◌<◌, ◌≤◌, ◌==◌, Bool, true, false, cond, List, [], ◌∷◌, map, length, replicate, All, refl, ap, ◌∙◌, arith, length-append}
use Rattle.std.proofs.lemmas.Bool.{eqb-false}
use Rattle.std.proofs.lemmas.List.{length-map, length-replicate}
use Rattle.mask_bits.specs.Reading.{high, number}
use Rattle.mask_circuit.specs.Wires.{each}
use Rattle.mask_circuit.proofs.Places.{length-each}
use Rattle.mask_laws.proofs.CircuitNames.{All-each}
use Rattle.mask_lightmac.specs.LightMac.{bytes_of, padded}
use Rattle.mask_lightmac.proofs.Tags.{length-bytes_of, length-high}
use Rattle.mask_trace.specs.Steps.{InputBit, Public, State, Registers, IsNotHeld, IsThere, plain_bits}
use Rattle.mask_trace.specs.Values.{input_value}
use Rattle.mask_trace.proofs.Inputs.{inputs_stand_in_parts}
use Rattle.mask_trace.proofs.Taking.{IsOnce}
use Rattle.mask_macs.specs.Codes.{IsCounterLength}
use Rattle.mask_macs.specs.LightMacRuns.{counted_bytes, value_at, value_bits}
use Rattle.mask_macs.proofs.Rows.{IsNotKey, all_publics, each_once, none_once, public_values, state_values}

-- BLOCKS

pub length-counted : (s n : ℕ) (piece : List ℕ) → length (counted_bytes s n piece) ≡ s + length piece
length-counted s n piece =
    length-append (bytes_of s (suc (n / (8 - s)))) piece ∙ ap (λ (k : ℕ). k + length piece) (length-bytes_of s (suc (n / (8 - s))))

-- a piece with its counter has eight bytes
pub counted_is_long : (s n : ℕ) (piece : List ℕ) → IsCounterLength s → length piece ≡ 8 - s →
    length (high (counted_bytes s n piece)) ≡ 64
counted_is_long s n piece is size =
    length-high (counted_bytes s n piece) ∙ (let e = length-counted s n piece in omega (arith, is.1))

pub length-padded : (piece : List ℕ) → length (padded piece) ≡ length piece + suc (7 - length piece)
unfolding padded
length-padded piece =
    length-append piece (0x80 ∷ replicate (7 - length piece) 0)
    ∙ ap (λ (k : ℕ). length piece + suc k) (length-replicate {A = ℕ} (7 - length piece) 0)

-- and so has a last one
pub padded_is_long : (s : ℕ) (piece : List ℕ) → IsCounterLength s → length piece ≤ 8 - s → length (high (padded piece)) ≡ 64
padded_is_long s piece is few = length-high (padded piece) ∙ (let e = length-padded piece in omega (arith, is.0))

-- V

-- what holds of 64 public bits, and of 64 bits of the state behind some bytes, holds of the bits of V
of_value : (P : List InputBit → Type 0) (n : ℕ) → P (map Public (replicate 64 false)) → (0 < n → P (each State 64)) → P (value_bits n)
of_value P n zeros state = go (n == 0) refl
  where
    go : (none : Bool) → (n == 0) ≡ none → P (cond none (map Public (replicate 64 false)) (each State 64))
    go true first = zeros
    go false later = let ne : n ≡ 0 → ⊥ = eqb-false n 0 later in state (omega arith)

pub length-value_bits : (n : ℕ) → length (value_bits n) ≡ 64
length-value_bits n = of_value (λ is. length is ≡ 64) n refl (λ some. length-each State 64)

pub value_there : (k s n : ℕ) → (0 < n → 64 ≤ s) → All (IsThere k s) (value_bits n)
value_there k s n there =
    of_value (All (IsThere k s)) n (all_publics (IsThere k s) (λ b. tt) (replicate 64 false))
    (λ some. let enough = there some in All-each (IsThere k s) State 64 (λ i lt. omega arith))

pub value_is_not_key : (n : ℕ) → All IsNotKey (value_bits n)
value_is_not_key n =
    of_value (All IsNotKey) n (all_publics IsNotKey (λ b. tt) (replicate 64 false)) (λ some. All-each IsNotKey State 64 (λ i lt. tt))

pub value_once : (n : ℕ) → IsOnce (value_bits n)
value_once n =
    of_value IsOnce n
    (none_once (map Public (replicate 64 false)) (all_publics IsNotHeld (λ b. tt) (replicate 64 false)))
    (λ some. each_once State (λ i j e. cc) 64)

pub value_no_message : (n : ℕ) → plain_bits (value_bits n) ≡ []
value_no_message n =
    of_value (λ is. plain_bits is ≡ []) n (inputs_stand_in_parts.bits_of_publics (replicate 64 false))
    (λ some. inputs_stand_in_parts.bits_of_state 64)

-- the bits that they are, and their number
pub record IsValue (held : Registers Bool) (n : ℕ) (bits : List Bool) : Type 0 where
  pub long : length bits ≡ 64
  pub is : number bits ≡ value_at held n

pub value_is : (held : Registers Bool) (n : ℕ) → (0 < n → length held.state ≡ 64) → IsValue held n (map (input_value held) (value_bits n))
value_is held n there = record {
  long = length-map (value_bits n) (input_value held) ∙ length-value_bits n;
  is = go (n == 0) refl;
}
  where
    go : (none : Bool) → (n == 0) ≡ none →
        number (map (input_value held) (cond none (map Public (replicate 64 false)) (each State 64))) ≡ cond none 0 (number held.state)
    go true first = ap number (public_values held (replicate 64 false))
    go false later =
        let ne : n ≡ 0 → ⊥ = eqb-false n 0 later in
        ap number (state_values held 64 (there (omega arith)))
