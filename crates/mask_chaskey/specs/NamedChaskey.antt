-- The circuits of Chaskey: a step, and the two ends.
use Rattle.std.specs.Prelude.{ℕ, ◌+◌, Bool, List, [], ◌∷◌, ◌++◌, take, drop, slice_set}
use Rattle.std.specs.List.{range_with_len, concat}
use Rattle.mask_bits.specs.Reading.{lowest, number}
use Rattle.mask_circuit.specs.Netlist.{Netlist, value_count, only_inputs}
use Rattle.mask_parts.specs.CipherCircuits.{Size}
use Rattle.mask_parts.specs.declared.tables.Place.TheVariants.{Given}
use Rattle.mask_parts.specs.declared.tables.Step.{Step}
use Rattle.mask_parts.specs.declared.tables.Step.TheVariants.{Xor}
use Rattle.mask_parts.specs.Fences.{with_fence}
use Rattle.mask_parts.specs.Tables.{with_part}
use Rattle.mask_chaskey.specs.declared.doubling.End.{End}
use Rattle.mask_chaskey.specs.declared.doubling.End.TheVariants.{Whole, Short}
use Rattle.mask_chaskey.specs.Chaskey.{absorbed, finished}
use Rattle.mask_chaskey.specs.Rounds.{Stage, stage, with_block_xored, with_permutation}

-- BLOCKS

-- the four words of 128 values
unfoldable pub four_words : List ℕ → List (List ℕ)
four_words us = take 32 us ∷ (take 32 (drop 32 us) ∷ (take 32 (drop 64 us) ∷ (take 32 (drop 96 us) ∷ [])))

-- those of 128 values in a row, from `first` on
unfoldable pub block_from : ℕ → List (List ℕ)
block_from first = four_words (range_with_len first 128)

-- DOUBLING

-- the XORs of bit 127 with bits 0, 1 and 6
unfoldable pub doubling_steps : List Step
doubling_steps = Xor (Given 0) (Given 127) ∷ (Xor (Given 1) (Given 127) ∷ (Xor (Given 6) (Given 127) ∷ []))

-- Bit 127 becomes bit 0, and each other bit moves up by one place. The three XORs, of which value n is the first, are bits 1,
-- 2 and 7.
unfoldable pub doubled_values : ℕ → List ℕ → List ℕ
doubled_values n us = slice_set (slice_set (slice_set (drop 127 us ++ take 127 us) 1 n) 2 (n + 1)) 7 (n + 2)

-- the block doubled: three gates
unfoldable pub with_doubled : Stage → Stage
with_doubled s =
    let us = concat s.block in
    record {
      draft = with_part s.draft us doubling_steps;
      block = four_words (doubled_values (value_count s.draft) us);
    }

-- the mask of a last block, out of the key
unfoldable pub with_last_mask : End → Stage → Stage
with_last_mask Whole s = with_doubled s
with_last_mask Short s = with_doubled (with_doubled s)

-- THE CIRCUITS

-- a fence at the 128 values of the block
unfoldable pub fenced : Stage → Netlist
fenced s = with_fence s.draft (concat s.block)

-- The inputs of a step are the state and then a block: their XOR, permuted.
unfoldable pub step_stage : Stage
step_stage = with_permutation (with_block_xored (block_from 128) (stage (only_inputs 256) (block_from 0)))

-- The inputs of an end are the state, then the key, then the last block. The state is xored with the block and with the mask,
-- permuted, and xored with the mask.
unfoldable pub end_stage : End → Stage
end_stage end =
    let mask = with_last_mask end (stage (only_inputs 384) (block_from 128)) in
    let xored = with_block_xored (block_from 256) (stage mask.draft (block_from 0)) in
    let permuted = with_permutation (with_block_xored mask.block xored) in
    with_block_xored mask.block permuted

-- chaskey-step
unfoldable pub named_step : Netlist
named_step = fenced step_stage

-- chaskey-end-whole and chaskey-end-short
unfoldable pub named_end : End → Netlist
named_end end = fenced (end_stage end)

-- how many inputs, outputs, products, refreshes and values they have
abbrev pub size_step : Size
size_step = record { inputs = 256; outputs = 128; products = 1488; refreshes = 1616; values = 10_928 }

abbrev pub size_end : End → Size
size_end Whole = record { inputs = 384; outputs = 128; products = 1488; refreshes = 1616; values = 11_315 }
size_end Short = record { inputs = 384; outputs = 128; products = 1488; refreshes = 1616; values = 11_318 }

-- what they compute of their input bits: the state after a block that isn't the last, and after the last one
unfoldable pub step_of_bits : List Bool → List Bool
step_of_bits x = lowest 128 (absorbed (number (take 128 x)) (number (drop 128 x)))

unfoldable pub end_of_bits : End → List Bool → List Bool
end_of_bits end x =
    lowest 128 (finished end (number (take 128 (drop 128 x))) (number (take 128 x)) (number (drop 256 x)))
