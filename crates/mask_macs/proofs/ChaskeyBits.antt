-- How many bits of the tape a run of Chaskey takes.
use Rattle.std.proofs.Common.{◌≡◌, ℕ, zero, suc, ◌+◌, ◌-◌, ◌*◌, ◌/◌, ◌≤◌, Bool, List, [], ◌∷◌, ◌++◌, map, length, refl, ap, ap₂, ◌∙◌, arith}
use Rattle.mask_bits.specs.Reading.{low}
use Rattle.mask_bits.proofs.Bytes.{length-low}
use Rattle.mask_circuit.specs.Wires.{each}
use Rattle.mask_circuit.specs.Expansion.{draws}
use Rattle.mask_parts.specs.CipherCircuits.{gate_bits}
use Rattle.mask_parts.proofs.Drawing.{draws-gates}
use Rattle.mask_chaskey.specs.declared.doubling.End.{End}
use Rattle.mask_chaskey.specs.declared.doubling.End.TheVariants.{Whole, Short}
use Rattle.mask_chaskey.specs.Chaskey.{blocks_before, end_of, last_bytes, padded}
use Rattle.mask_chaskey.specs.NamedChaskey.{named_end, named_step, size_end, size_step}
use Rattle.mask_chaskey.proofs.Concluding.{IsCipherCircuit-named_step, size-named_end}
use Rattle.mask_trace.specs.Steps.{AsState, Plain, Key, State, bits_of, plain_bits, stretch}
use Rattle.mask_trace.proofs.Inputs.{inputs_stand_in_parts}
use Rattle.mask_trace.proofs.Traces.{bits_of-cons, traces_split}
use Rattle.mask_streams.proofs.TapeBits.{plain_bits-behind}
use Rattle.mask_macs.specs.ChaskeyRuns.{block_of, block_step, block_steps, chaskey_bits, end_step, start_step}
use Rattle.mask_macs.specs.Codes.{chaskey_code}
use Rattle.mask_macs.specs.Laws.{RunBits}
use Rattle.mask_macs.proofs.ChaskeyBlocks.{length-padded}
use Rattle.mask_macs.proofs.Pieces.{length-piece_of}
use Rattle.mask_macs.proofs.Refreshes.{stretch-refresh}

-- the bits that a block draws, be it the last or not
abbrev block_bits : ℕ → ℕ
block_bits d = 128 * d + 3104 * gate_bits d

-- sixteen bytes of message, and so many gates
stretch_of_block : (d : ℕ) (bytes : List ℕ) (bits : List Bool) (drawn : ℕ) → bits ≡ low bytes → length bytes ≡ 16 →
    drawn ≡ 3104 * gate_bits d → d * length bits + drawn ≡ block_bits d
stretch_of_block d bytes bits drawn is size e =
    let long : length bits ≡ 128 = ap length is ∙ length-low bytes ∙ ap (λ (n : ℕ). 8 * n) size in
    ap₂ (λ (n m : ℕ). d * n + m) long e ∙ omega arith

stretch-block : (d : ℕ) (block : List ℕ) → length block ≡ 16 → stretch (suc d) (block_step block) ≡ block_bits d
stretch-block d block size =
    stretch_of_block d block (plain_bits (each State 128 ++ map Plain (low block))) (draws named_step (suc d))
    (plain_bits-behind (each State 128) (map Plain (low block)) (low block)
    (inputs_stand_in_parts.bits_of_state 128) (inputs_stand_in_parts.bits_of_plains (low block)))
    size (draws-gates named_step size_step d 3104 IsCipherCircuit-named_step.sized refl)

draws-end : (d : ℕ) (end : End) → draws (named_end end) (suc d) ≡ 3104 * gate_bits d
draws-end d Whole = draws-gates (named_end Whole) (size_end Whole) d 3104 (size-named_end Whole) refl
draws-end d Short = draws-gates (named_end Short) (size_end Short) d 3104 (size-named_end Short) refl

stretch-end : (d : ℕ) (end : End) (bytes : List ℕ) → length (padded end bytes) ≡ 16 →
    stretch (suc d) (end_step end bytes) ≡ block_bits d
stretch-end d end bytes size =
    let message = low (padded end bytes) in
    stretch_of_block d (padded end bytes) (plain_bits (each State 128 ++ (each Key 128 ++ map Plain message)))
    (draws (named_end end) (suc d))
    (plain_bits-behind (each State 128) (each Key 128 ++ map Plain message) message (inputs_stand_in_parts.bits_of_state 128)
    (plain_bits-behind (each Key 128) (map Plain message) message
    (inputs_stand_in_parts.bits_of_key 128) (inputs_stand_in_parts.bits_of_plains message)))
    size (draws-end d end)

-- the first n blocks
bits-blocks : (d : ℕ) (message : List ℕ) (n : ℕ) → 16 * n ≤ length message →
    bits_of (suc d) (block_steps message n) ≡ n * block_bits d
bits-blocks d message zero within = omega arith
bits-blocks d message (suc n) within =
    let one = bits_of-cons (suc d) (block_step (block_of message n)) [] in
    let all = bits-blocks d message n (omega arith) in
    let last = stretch-block d (block_of message n) (length-piece_of 16 (omega arith) message n (omega arith)) in
    let b = block_bits d in
    let sum : n * b + (b + 0) ≡ suc n * b = omega arith in
    traces_split.bits (suc d) (block_steps message n) (block_step (block_of message n) ∷ [])
    ∙ ap₂ (λ (x y : ℕ). x + y) all (one ∙ ap (λ (x : ℕ). x + 0) last)
    ∙ sum

pub run_bits : (tag : ℕ) → RunBits (chaskey_code tag)
unfolding chaskey_bits blocks_before
run_bits tag d message =
    let m = (length message - 1) / 16 in
    let b = block_bits d in
    let end = end_step (end_of message) (last_bytes message) in
    let rest = block_steps message m ++ end ∷ [] in
    let sum : 128 * gate_bits d + (m * b + (b + 0)) ≡ 128 * gate_bits d + suc m * b = omega arith in
    bits_of-cons (suc d) start_step rest
    ∙ ap₂ (λ (x y : ℕ). x + y) (stretch-refresh d 128 AsState)
    (traces_split.bits (suc d) (block_steps message m) (end ∷ [])
    ∙ ap₂ (λ (x y : ℕ). x + y) (bits-blocks d message m (omega arith))
    (bits_of-cons (suc d) end [] ∙ ap (λ (x : ℕ). x + 0) (stretch-end d (end_of message) (last_bytes message) (length-padded message))))
    ∙ sum
