-- How many bits of the tape a run takes.
use Rattle.std.proofs.Common.{◌≡◌, ℕ, zero, suc, ◌+◌, ◌*◌, ◌<◌, Bool, List, [], ◌∷◌, ◌++◌, map, length, All, refl, ap, ap₂, ◌∙◌, arith}
use Rattle.std.proofs.Math.Nat.{mul_comm}
use Rattle.std.proofs.lemmas.List.Elements.{All-tail}
use Rattle.mask_bits.specs.Reading.{low}
use Rattle.mask_bits.proofs.Bytes.{length-low}
use Rattle.mask_circuit.specs.Wires.{each}
use Rattle.mask_circuit.proofs.Places.{length-each}
use Rattle.mask_parts.specs.CipherCircuits.{gate_bits}
use Rattle.mask_parts.proofs.Drawing.{draws-gates}
use Rattle.mask_trivium.specs.NamedTrivium.{named_start, named_step, size_start, size_step}
use Rattle.mask_trivium.proofs.Concluding.{IsCipherCircuit-named_start, IsCipherCircuit-named_step}
use Rattle.mask_trace.specs.Steps.{InputBit, Public, Plain, Key, State, plain_bits, stretch, bits_of}
use Rattle.mask_trace.proofs.Inputs.{inputs_stand_in_parts}
use Rattle.mask_trace.proofs.Traces.{bits_of-cons}
use Rattle.mask_modes.specs.CounterMode.{block_count}
use Rattle.mask_modes.specs.Steps.{block_at, blocks}
use Rattle.mask_modes.proofs.Blocks.{blocks_are_long}
use Rattle.mask_streams.specs.Streams.{block_steps, start_step, stream_bits, stream_step}
use Rattle.mask_streams.specs.Laws.{RunBits}
use Rattle.mask_streams.proofs.Plans.{block_steps-map}

-- STEPS

-- the message bits behind others
pub plain_bits-behind : (front back : List InputBit) (message : List Bool) → plain_bits front ≡ [] → plain_bits back ≡ message →
    plain_bits (front ++ back) ≡ message
plain_bits-behind front back message none bits =
    inputs_stand_in_parts.bits_of_both front back ∙ ap₂ (λ (l r : List Bool). l ++ r) none bits

stretch-start : (d : ℕ) (iv : List ℕ) → stretch (suc d) (start_step iv) ≡ 7200 * gate_bits d
stretch-start d iv =
    let none : plain_bits (each Key 80 ++ map Public (low iv)) ≡ []
    = plain_bits-behind (each Key 80) (map Public (low iv)) []
    (inputs_stand_in_parts.bits_of_key 80) (inputs_stand_in_parts.bits_of_publics (low iv)) in
    ap₂ (λ (bs : List Bool) (n : ℕ). d * length bs + n) none
    (draws-gates named_start size_start d 7200 IsCipherCircuit-named_start.sized refl)
    ∙ omega arith

stretch-stream : (d : ℕ) (block : List ℕ) → length block ≡ 8 →
    stretch (suc d) (stream_step block) ≡ 64 * d + 736 * gate_bits d
stretch-stream d block eight =
    let bits : plain_bits (each State 288 ++ map Plain (low block)) ≡ low block
    = plain_bits-behind (each State 288) (map Plain (low block)) (low block)
    (inputs_stand_in_parts.bits_of_state 288) (inputs_stand_in_parts.bits_of_plains (low block)) in
    let long : length (low block) ≡ 64 = length-low block ∙ ap (λ (n : ℕ). 8 * n) eight in
    ap₂ (λ (k n : ℕ). d * k + n) (ap length bits ∙ long)
    (draws-gates named_step size_step d 736 IsCipherCircuit-named_step.sized refl)
    ∙ ap (λ (k : ℕ). k + 736 * gate_bits d) (mul_comm d 64)

-- RUNS

bits-streams : (d : ℕ) (parts : List (List ℕ)) → All (λ block. length block ≡ 8) parts →
    bits_of (suc d) (map stream_step parts) ≡ length parts * (64 * d + 736 * gate_bits d)
bits-streams d [] all = omega arith
bits-streams d (block ∷ parts) all =
    let each_block = 64 * d + 736 * gate_bits d in
    let e : each_block + length parts * each_block ≡ suc (length parts) * each_block = omega arith in
    bits_of-cons (suc d) (stream_step block) (map stream_step parts)
    ∙ ap₂ (λ (a b : ℕ). a + b) (stretch-stream d block (all 0 [] (omega arith)))
    (bits-streams d parts (All-tail (λ b. length b ≡ 8) block parts all))
    ∙ e

bits-blocks : (d : ℕ) (message : List ℕ) →
    bits_of (suc d) (block_steps message) ≡ block_count 8 (length message) * (64 * d + 736 * gate_bits d)
bits-blocks d message =
    ap (bits_of (suc d)) (block_steps-map message)
    ∙ bits-streams d (blocks 8 message) (blocks_are_long 8 message)
    ∙ ap (λ (n : ℕ). n * (64 * d + 736 * gate_bits d)) (length-each (block_at 8 message) _)

-- some blocks
stream_bits-some : (d n : ℕ) → 0 < n → 7200 * gate_bits d + n * (64 * d + 736 * gate_bits d) ≡ stream_bits d n
unfolding stream_bits
stream_bits-some d zero some = absurd (omega arith)
stream_bits-some d (suc n) some = refl

no_bits : (d n : ℕ) → n ≡ 0 → 0 ≡ stream_bits d n
unfolding stream_bits
no_bits d zero none = refl
no_bits d (suc n) none = absurd (omega arith)

pub run_bits : RunBits
run_bits d iv [] = no_bits d (block_count 8 0) (omega arith)
run_bits d iv (byte ∷ more) =
    let message = byte ∷ more in
    bits_of-cons (suc d) (start_step iv) (block_steps message)
    ∙ ap₂ (λ (a b : ℕ). a + b) (stretch-start d iv) (bits-blocks d message)
    ∙ stream_bits-some d (block_count 8 (length message)) (omega arith)
