-- A run of LightMAC at worked examples, computed.
use Rattle.std.specs.Prelude.{◌≡◌, true, [], ◌∷◌, length, replicate, refl}
use Rattle.std.specs.List.{range_with_len}
use Rattle.mask_tasks.specs.declared.sizes.KeySize.TheVariants.{K80, K128}
use Rattle.mask_parts.specs.PresentSbox.{sbox}
use Rattle.mask_present.specs.Present.{block_after, encrypted, permuted, present, register_after, replaced, rotated, round_key, substituted, updated}
use Rattle.mask_lightmac.specs.LightMac.{bytes_of, finished, last_piece, padded, piece_at, pieces_before}
use Rattle.mask_macs.specs.LightMacRuns.{end_step, fed_steps, lightmac_bits, lightmac_plan, next_output, next_steps, piece_step, refresh_step, with_key}

-- THE STEPS

-- a message of no bytes has one piece, and so has one of seven, where a counter has a byte
of_nothing : lightmac_plan K80 1 [] ≡ end_step K80 0 [] ∷ []
unfolding pieces_before last_piece piece_at
of_nothing = refl

of_7_zeros : lightmac_plan K80 1 (replicate 7 0) ≡ end_step K80 0 (replicate 7 0) ∷ []
unfolding pieces_before last_piece piece_at
of_7_zeros = refl

of_15_zeros : lightmac_plan K80 1 (replicate 15 0)
    ≡ piece_step K80 1 0 (replicate 7 0) ∷ refresh_step K80 ∷ piece_step K80 1 7 (replicate 7 0) ∷ end_step K80 14 (0 ∷ []) ∷ []
unfolding pieces_before last_piece piece_at
of_15_zeros = refl

-- four bytes behind which more comes, where a counter has four, and a last byte behind them
fed : fed_steps K128 4 (5 ∷ 6 ∷ 7 ∷ 8 ∷ []) ≡ piece_step K128 4 0 (5 ∷ 6 ∷ 7 ∷ 8 ∷ []) ∷ []
unfolding piece_at
fed = refl

next_at_last : next_steps K128 4 4 (9 ∷ []) true ≡ end_step K128 4 (9 ∷ []) ∷ []
next_at_last = refl

-- 1,792 bytes are as many pieces as a counter of one byte tells apart
step_count : length (lightmac_plan K80 1 (replicate 1792 0)) ≡ 510
unfolding pieces_before last_piece piece_at
step_count = refl

-- RANDOM BITS

bits_of_256_pieces : lightmac_bits K80 1 1 1792 ≡ 1_402_208
unfolding lightmac_bits
bits_of_256_pieces = refl

bits_of_nothing : lightmac_bits K128 4 2 0 ≡ 17_060
unfolding lightmac_bits
bits_of_nothing = refl

-- THE TAG

-- the tag of no byte under the key 00 01 .. 13 that mask_lightmac has of another program (LightMacVectors)
tag_of_nothing : next_output K80 8 (with_key K80 (range_with_len 0 20)) 0 [] true
    ≡ 0x14 ∷ 0xc8 ∷ 0x9b ∷ 0x5c ∷ 0x15 ∷ 0x5d ∷ 0xd4 ∷ 0x75 ∷ []
unfolding padded finished bytes_of present encrypted block_after register_after round_key updated rotated replaced substituted sbox permuted
tag_of_nothing = refl
