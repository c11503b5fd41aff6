-- The rounds on values at worked examples, computed.
use Rattle.std.proofs.Common.{◌≡◌, ◌+◌, ◌*◌, [], ◌∷◌, length, take, drop, map, replicate, refl}
use Rattle.std.specs.List.{range_with_len}
use Rattle.mask_circuit.specs.declared.gates.Gate.TheVariants.{Xor, And, Ref, Zero, One}
use Rattle.mask_circuit.specs.Netlist.{only_inputs}
use Rattle.mask_tasks.specs.declared.sizes.LeaSize.TheVariants.{K128, K256}
use Rattle.mask_parts.specs.Drafts.{with_gates}
use Rattle.mask_parts.specs.Turns.{in_turn}
use Rattle.mask_parts.specs.Words32.{xor32_steps, xor32_gates, with_xor32, xor32_results, sum32_steps, sum32_gates, with_sum32, sum32_results, rotated32, constant32, word}
use Rattle.mask_lea.specs.Lea.{schedule, deltas, delta, place}
use Rattle.mask_lea.specs.NamedLea.{words_from, start}
use Rattle.mask_lea.specs.Rounds.{stage, constant_word, with_word_updated, with_key_updated, round_words, with_mixed, mixed_results, with_block_mixed, with_round}

-- round 1 of 128 bits updates words 0 to 3; of 256 bits it goes on where round 0 ended, and round 4 begins at word 0 again
places : (map (place (schedule K128) 1) (range_with_len 0 4) ≡ 0 ∷ 1 ∷ 2 ∷ 3 ∷ [])
    × (map (place (schedule K256) 1) (range_with_len 0 6) ≡ 6 ∷ 7 ∷ 0 ∷ 1 ∷ 2 ∷ 3 ∷ [])
    × (place (schedule K256) 4 0 ≡ 0)
unfolding place
places = (refl, refl, refl)

-- the first constant is c3efe9db, whose lowest bits are 1, 1, 0, 1; word 1 takes it rotated left by one place
constant_bits : (take 4 (constant_word (schedule K128) 0 0 5 6) ≡ 6 ∷ 6 ∷ 5 ∷ 6 ∷ [])
    × (take 4 (constant_word (schedule K128) 0 1 5 6) ≡ 6 ∷ 6 ∷ 6 ∷ 5 ∷ [])
unfolding constant_word rotated32 constant32 delta deltas
constant_bits = (refl, refl)

-- the first gates of lea-128 after its two constants, values 384 and 385: bit 0 of word 0 and of the constant
first_gates : take 5 (with_word_updated (schedule K128) 0 0 (start (schedule K128))).draft.gates ≡ Zero ∷ One ∷ Xor 0 385 ∷ Ref 385 ∷ And 0 387 ∷ []
unfolding with_word_updated start words_from with_sum32 sum32_gates sum32_steps sum32_results constant_word rotated32 constant32 delta deltas place with_gates
first_gates = refl

-- bit 0 of the updated word, rotated left by one place, is bit 31 of the sum, the last value of 185
first_word : take 2 (word (with_word_updated (schedule K128) 0 0 (start (schedule K128))).key 0) ≡ 570 ∷ 386 ∷ []
unfolding with_word_updated start words_from with_sum32 sum32_gates sum32_steps sum32_results constant_word rotated32 constant32 delta deltas place with_gates
first_word = refl

-- two words mixed are 249 gates, of which the first are the XOR of the first word with the first of the key
mixed_gates : (length (with_mixed (only_inputs 128) (range_with_len 0 32) (range_with_len 32 32) (range_with_len 64 32) (range_with_len 96 32)).gates ≡ 249)
    × (take 2 (with_mixed (only_inputs 128) (range_with_len 0 32) (range_with_len 32 32) (range_with_len 64 32) (range_with_len 96 32)).gates ≡ Xor 0 32 ∷ Xor 1 33 ∷ [])
    × (take 2 (drop 64 (with_mixed (only_inputs 128) (range_with_len 0 32) (range_with_len 32 32) (range_with_len 64 32) (range_with_len 96 32)).gates) ≡ Xor 128 160 ∷ Ref 160 ∷ [])
unfolding with_mixed with_xor32 xor32_gates xor32_steps xor32_results with_sum32 sum32_gates sum32_steps with_gates
mixed_gates = (refl, refl, refl)

-- the last word of a block after a round is its first word before
last_word : word (with_block_mixed (replicate 6 (range_with_len 0 32)) (stage (only_inputs 128) 0 0 [] (words_from 0 4))).block 3 ≡ range_with_len 0 32
unfolding with_block_mixed stage words_from
last_word = refl

-- round 0 of lea-128: four words updated by 185 gates each and three mixed by 249, behind the two constants
first_round : length (with_round (schedule K128) 0 (start (schedule K128))).draft.gates ≡ 2 + 4 * 185 + 3 * 249
unfolding with_round with_key_updated in_turn with_word_updated with_block_mixed round_words with_mixed mixed_results start words_from with_xor32 xor32_gates xor32_steps xor32_results
    with_sum32 sum32_gates sum32_steps sum32_results constant_word rotated32 constant32 delta deltas place with_gates
first_round = refl
