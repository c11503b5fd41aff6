-- A run of Chaskey at worked examples, computed.
use Rattle.std.specs.Prelude.{◌≡◌, Bool, true, [], ◌∷◌, replicate, refl}
use Rattle.std.specs.List.{range_with_len}
use Rattle.mask_bits.specs.Reading.{low}
use Rattle.mask_parts.specs.Turns.{in_turn}
use Rattle.mask_parts.specs.Words32.{joined, words_of}
use Rattle.mask_chaskey.specs.declared.doubling.End.TheVariants.{Whole, Short}
use Rattle.mask_chaskey.specs.Chaskey.{blocks_before, bytes_of, doubled, end_of, finished, last_bytes, last_mask, mixed, padded, permutation, permuted, round, turned}
use Rattle.mask_trace.specs.Steps.{Registers}
use Rattle.mask_macs.specs.ChaskeyRuns.{block_step, chaskey_bits, chaskey_plan, end_step, fed_steps, next_output, next_steps, start_step}

-- THE STEPS

-- a message of no bytes has one block, and so has one of sixteen, which ends whole
of_nothing : chaskey_plan [] ≡ start_step ∷ end_step Short [] ∷ []
unfolding blocks_before last_bytes end_of
of_nothing = refl

of_16_zeros : chaskey_plan (replicate 16 0) ≡ start_step ∷ end_step Whole (replicate 16 0) ∷ []
unfolding blocks_before last_bytes end_of
of_16_zeros = refl

of_17_zeros : chaskey_plan (replicate 17 0) ≡ start_step ∷ block_step (replicate 16 0) ∷ end_step Short (0 ∷ []) ∷ []
unfolding blocks_before last_bytes end_of
of_17_zeros = refl

-- sixteen bytes behind which more comes, and a last byte behind them
fed : fed_steps (replicate 16 0) ≡ start_step ∷ block_step (replicate 16 0) ∷ []
fed = refl

next_at_last : next_steps 16 (5 ∷ []) true ≡ end_step Short (5 ∷ []) ∷ []
unfolding blocks_before last_bytes end_of
next_at_last = refl

-- RANDOM BITS

bits_of_nothing : chaskey_bits 1 0 ≡ 3_360
unfolding chaskey_bits
bits_of_nothing = refl

bits_of_16_bytes : chaskey_bits 1 16 ≡ 3_360
unfolding chaskey_bits
bits_of_16_bytes = refl

bits_of_17_bytes : chaskey_bits 1 17 ≡ 6_592
unfolding chaskey_bits
bits_of_17_bytes = refl

-- THE TAG

-- what a run holds at its beginning, under the key 00 01 .. 0f
abbrev held : Registers Bool
held = record { key = low (range_with_len 0 16); state = [] }

-- the tag of no byte that mask_chaskey has of another program (ChaskeyVectors), its first eight bytes
tag_of_nothing : next_output 8 held 0 [] true ≡ 0xd7 ∷ 0x3b ∷ 0xcc ∷ 0xf1 ∷ 0x97 ∷ 0x48 ∷ 0x76 ∷ 0x83 ∷ []
unfolding blocks_before last_bytes end_of padded bytes_of finished last_mask doubled permutation joined words_of permuted in_turn round turned mixed
tag_of_nothing = refl
