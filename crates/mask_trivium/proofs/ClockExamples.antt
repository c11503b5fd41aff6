-- The states and the clocks at worked examples, computed.
use Rattle.std.proofs.Common.{◌≡◌, [], ◌∷◌, length, take, drop, map, slice_index, refl}
use Rattle.std.specs.List.{range_with_len}
use Rattle.mask_circuit.specs.declared.gates.Gate.TheVariants.{Xor, And, Ref, Zero, One}
use Rattle.mask_parts.specs.Drafts.{with_gates}
use Rattle.mask_parts.specs.Tables.{with_part}
use Rattle.mask_trivium.specs.Clocks.{setup_steps, stream_steps, setup, stream, stage, with_clock}
use Rattle.mask_trivium.specs.NamedTrivium.{start, given}
use Rattle.mask_trivium.specs.Trivium.{shifted, loaded}

-- s1, s80, s81, s93, s94, s173, s174, s285, s286 and s288 at first: the key is 0 to 79, the IV 80 to 159, and 160 and 161 are
-- the bits 0 and 1
places : map (slice_index (loaded 160 161 (range_with_len 0 80) (range_with_len 80 80))) (0 ∷ 79 ∷ 80 ∷ 92 ∷ 93 ∷ 172 ∷ 173 ∷ 284 ∷ 285 ∷ 287 ∷ [])
    ≡ 0 ∷ 79 ∷ 160 ∷ 160 ∷ 80 ∷ 159 ∷ 160 ∷ 160 ∷ 161 ∷ 161 ∷ []
places = refl

-- s1, s2, s93, s94, s95, s177, s178, s179 and s288 after a shift: each register loses its last value
moves : map (slice_index (shifted 1000 2000 3000 (range_with_len 0 288))) (0 ∷ 1 ∷ 92 ∷ 93 ∷ 94 ∷ 176 ∷ 177 ∷ 178 ∷ 287 ∷ [])
    ≡ 1000 ∷ 0 ∷ 91 ∷ 2000 ∷ 93 ∷ 175 ∷ 3000 ∷ 177 ∷ 286 ∷ []
moves = refl

-- the first gates of trivium-start: the constants, and the sums that a clock begins with
first_gates : take 7 (with_clock setup start).draft.gates ≡ Zero ∷ One ∷ Xor 65 160 ∷ Xor 148 160 ∷ Xor 160 161 ∷ Ref 160 ∷ And 160 165 ∷ []
unfolding with_clock with_part setup_steps start stage with_gates
first_gates = refl

-- what its first clock puts into the registers
first_state : map (slice_index (with_clock setup start).state) (0 ∷ 1 ∷ 93 ∷ 94 ∷ 177 ∷ []) ≡ 176 ∷ 0 ∷ 168 ∷ 80 ∷ 172 ∷ []
unfolding with_clock start stage with_gates
first_state = refl

-- a clock of trivium-step has 17 gates, and outputs the fifth
first_output : (length (with_clock stream given).draft.gates ≡ 17) × ((with_clock stream given).outputs ≡ 356 ∷ [])
    × (take 2 (drop 3 (with_clock stream given).draft.gates) ≡ Xor 352 353 ∷ Xor 355 354 ∷ [])
unfolding with_clock with_part stream_steps given stage with_gates
first_output = (refl, refl, refl)
