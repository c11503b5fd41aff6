-- The rounds, the doubling and the blocks of a message at worked examples, computed.
use Rattle.std.proofs.Common.{◌≡◌, ◌+◌, ◌^◌, [], ◌∷◌, ◌++◌, length, take, drop, map, replicate, refl}
use Rattle.std.specs.List.{range_with_len}
use Rattle.mask_circuit.specs.declared.gates.Gate.TheVariants.{Xor, And, Ref}
use Rattle.mask_circuit.specs.Netlist.{only_inputs}
use Rattle.mask_parts.specs.Drafts.{with_gates}
use Rattle.mask_parts.specs.Tables.{with_part}
use Rattle.mask_parts.specs.Turns.{in_turn}
use Rattle.mask_parts.specs.Words32.{xor32_steps, xor32_gates, with_xor32, xor32_results, sum32_steps, sum32_gates, with_sum32, sum32_results, rotated32, word}
use Rattle.mask_chaskey.specs.declared.doubling.End.TheVariants.{Whole, Short}
use Rattle.mask_chaskey.specs.Chaskey.{doubled, block_at, blocks_before, last_bytes, end_of, padded}
use Rattle.mask_chaskey.specs.NamedChaskey.{four_words, block_from, doubling_steps, doubled_values, with_doubled}
use Rattle.mask_chaskey.specs.Rounds.{stage, with_word_xored, with_block_xored, with_mixed, turned_block, with_turned, with_round}

-- the first gates of a step: bit 0 of the state and of the block
first_gates : take 2 (with_block_xored (block_from 128) (stage (only_inputs 256) (block_from 0))).draft.gates ≡ Xor 0 128 ∷ Xor 1 129 ∷ []
unfolding with_block_xored in_turn with_word_xored stage block_from four_words with_xor32 xor32_gates xor32_steps xor32_results with_gates
first_gates = refl

-- A mixing begins with bit 0 of a sum. Behind its 185 gates, bit 0 of the rotated word is bit 27 of word 1, value 59.
mixed_gates : (length (with_mixed 0 1 5 (stage (only_inputs 128) (block_from 0))).draft.gates ≡ 217)
    × (take 3 (with_mixed 0 1 5 (stage (only_inputs 128) (block_from 0))).draft.gates ≡ Xor 0 32 ∷ Ref 32 ∷ And 0 129 ∷ [])
    × (take 1 (drop 185 (with_mixed 0 1 5 (stage (only_inputs 128) (block_from 0))).draft.gates) ≡ Xor 59 128 ∷ [])
unfolding with_mixed stage block_from four_words with_xor32 xor32_gates xor32_steps with_sum32 sum32_gates sum32_steps sum32_results rotated32 with_gates
mixed_gates = (refl, refl, refl)

-- a word turned by half its width begins with its bit 16
first_turned : take 2 (word (turned_block 0 (block_from 0)) 0) ≡ 16 ∷ 17 ∷ []
unfolding turned_block block_from four_words rotated32
first_turned = refl

-- a round: four mixings
round_gates : length (with_round (stage (only_inputs 128) (block_from 0))).draft.gates ≡ 868
unfolding with_round with_mixed with_turned turned_block stage block_from four_words with_xor32 xor32_gates xor32_steps with_sum32 sum32_gates sum32_steps sum32_results rotated32 with_gates
round_gates = refl

-- a doubling: three gates, and the values of the bits afterwards
doubling_gates : (with_doubled (stage (only_inputs 128) (block_from 0))).draft.gates ≡ Xor 0 127 ∷ Xor 1 127 ∷ Xor 6 127 ∷ []
unfolding with_doubled doubling_steps stage block_from four_words with_part with_gates
doubling_gates = refl

doubled_bits : take 10 (doubled_values 128 (range_with_len 0 128)) ≡ 127 ∷ 128 ∷ 129 ∷ 2 ∷ 3 ∷ 4 ∷ 5 ∷ 130 ∷ 7 ∷ 8 ∷ []
unfolding doubled_values
doubled_bits = refl

-- doubled numbers
doubled_numbers : (doubled 1 ≡ 2) × (doubled (2 ^ 127) ≡ 0x87) × (doubled (2 ^ 127 + 1) ≡ 0x85)
unfolding doubled
doubled_numbers = (refl, refl, refl)

-- Up to 16 bytes there is no block before the last one. A whole block isn't followed by an empty one.
counts : map (λ n. blocks_before (replicate n 7)) (0 ∷ 1 ∷ 16 ∷ 17 ∷ 32 ∷ 33 ∷ []) ≡ 0 ∷ 0 ∷ 0 ∷ 1 ∷ 1 ∷ 2 ∷ []
unfolding blocks_before
counts = refl

ends : map (λ n. end_of (replicate n 7)) (0 ∷ 1 ∷ 16 ∷ 17 ∷ 32 ∷ 33 ∷ []) ≡ Short ∷ Short ∷ Whole ∷ Short ∷ Whole ∷ Short ∷ []
unfolding end_of last_bytes blocks_before
ends = refl

-- a one stands behind the bytes that are left, and zeros up to 16
padded_bytes : (padded Short (5 ∷ 6 ∷ []) ≡ (5 ∷ 6 ∷ 1 ∷ []) ++ replicate 13 0) × (padded Short [] ≡ 1 ∷ replicate 15 0)
unfolding padded
padded_bytes = (refl, refl)

-- block 1 of 18 bytes is the number of its last two, the first the lowest
second_block : block_at (replicate 16 0 ++ (3 ∷ 1 ∷ [])) 1 ≡ 259
unfolding block_at
second_block = refl
