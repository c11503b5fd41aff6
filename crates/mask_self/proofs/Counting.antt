-- How many steps and random bits a message takes.
use Rattle.std.proofs.Common.{◌≡◌, ℕ, zero, suc, ◌+◌, ◌-◌, ◌*◌, ◌/◌, ◌%◌, ◌≤◌, Bool, true, false, not, ◌&&◌, ◌==◌, cond, List, [], ◌∷◌, length, refl, ap, arith, eqb-true, length-append}
use Rattle.std.proofs.lemmas.Bool.{eqb-false}
use Rattle.std.proofs.Math.Nat.{mul-le-mul_right}
use Rattle.mask_circuit.proofs.Places.{length-each}
use Rattle.mask_tasks.specs.declared.tasks.Task.{Task}
use Rattle.mask_tasks.specs.declared.tasks.Task.TheVariants.{Present, Lea, Trivium, LightMac, Chaskey}
use Rattle.mask_parts.specs.CipherCircuits.{gate_bits}
use Rattle.mask_modes.specs.CounterMode.{block_count}
use Rattle.mask_modes.specs.Steps.{Mode, ahead_of, block_at, block_step, blocks, refresh_step, steps_from, steps_of}
use Rattle.mask_streams.specs.Streams.{stream_bits}
use Rattle.mask_ciphers.specs.Methods.{IsCipher}
use Rattle.mask_ciphers.specs.Tasks.{method_of}
use Rattle.mask_ciphers.specs.Totals.{counter_bits, total}

-- STEPS

-- one refresh more, where one is due
refreshes-more : (m : Mode) (i : ℕ) → length (ahead_of m i) + ((i + 63) / 64 - 1) ≡ (suc i + 63) / 64 - 1
refreshes-more m i = go (i % 64 == 0) (i == 0) refl refl
  where
    go : (whole none : Bool) → (i % 64 == 0) ≡ whole → (i == 0) ≡ none →
        length (cond (whole && not none) (refresh_step m ∷ []) []) + ((i + 63) / 64 - 1) ≡ (suc i + 63) / 64 - 1
    go true true is first = let e : i ≡ 0 = eqb-true i 0 first in omega arith
    go true false is first =
        let e : i % 64 ≡ 0 = eqb-true (i % 64) 0 is in
        let ne : i ≡ 0 → ⊥ = eqb-false i 0 first in
        omega arith
    go false none is first = let ne : i % 64 ≡ 0 → ⊥ = eqb-false (i % 64) 0 is in omega arith

-- the steps of blocks behind the first i, ahead of which there were (i + 63) / 64 - 1 refreshes
length-steps_from : (m : Mode) (i : ℕ) (part : List (List ℕ)) →
    length (steps_from m i part) + ((i + 63) / 64 - 1) ≡ length part + ((i + length part + 63) / 64 - 1)
unfolding steps_from
length-steps_from m i [] = let e : i + 0 ≡ i = omega arith in rw e refl
length-steps_from m i (block ∷ part) =
    let rest = length-steps_from m (suc i) part in
    let place : suc i + length part ≡ i + suc (length part) = omega arith in
    let all = ap (λ (n : ℕ). length part + ((n + 63) / 64 - 1)) place in
    omega (arith, rest, all, refreshes-more m i, length-append (ahead_of m i) (block_step m i block ∷ steps_from m (suc i) part))

pub length-steps_of : (m : Mode) (message : List ℕ) →
    let n = block_count m.block (length message) in length (steps_of m message) ≡ n + ((n + 63) / 64 - 1)
length-steps_of m message =
    let n = block_count m.block (length message) in
    let count : length (blocks m.block message) ≡ n = length-each (block_at m.block message) n in
    let steps = length-steps_from m 0 (blocks m.block message) in
    let same = ap (λ (k : ℕ). k + ((0 + k + 63) / 64 - 1)) count in
    omega (arith, steps, same)

-- RANDOM BITS

counter_bits-grow : (b gates refreshes d m n : ℕ) → m ≤ n → counter_bits b gates refreshes d m ≤ counter_bits b gates refreshes d n
counter_bits-grow b gates refreshes d m n le =
    let more : (m + 63) / 64 - 1 ≤ (n + 63) / 64 - 1 = omega arith in
    omega (arith, mul-le-mul_right (d * b + gates * gate_bits d) le, mul-le-mul_right (refreshes * gate_bits d) more)

stream_bits-grow : (d m n : ℕ) → m ≤ n → stream_bits d m ≤ stream_bits d n
unfolding stream_bits
stream_bits-grow d zero n le = omega arith
stream_bits-grow d (suc m) zero le = absurd (omega arith)
stream_bits-grow d (suc m) (suc n) le = omega (arith, mul-le-mul_right (64 * d + 736 * gate_bits d) le)

-- a longer message that is encrypted takes no fewer
pub totals_grow : (task : Task) → IsCipher (method_of task) → (d m n : ℕ) → m ≤ n → total task d m ≤ total task d n
unfolding total
totals_grow (Present size iv) is d m n le = counter_bits-grow 64 _ _ d ((m + 7) / 8) ((n + 7) / 8) (omega arith)
totals_grow (Lea size iv) is d m n le = counter_bits-grow 128 _ _ d ((m + 15) / 16) ((n + 15) / 16) (omega arith)
totals_grow (Trivium iv) is d m n le = stream_bits-grow d ((m + 7) / 8) ((n + 7) / 8) (omega arith)
totals_grow (LightMac size counter tag) is d m n le = absurd is
totals_grow (Chaskey tag) is d m n le = absurd is
