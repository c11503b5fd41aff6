-- What tasks write, and what they draw, computed. The values of PRESENT-80 are published (Bogdanov and others, CHES 2007);
-- that of PRESENT-128 is of a program that shares nothing with these definitions.
use Rattle.std.proofs.Common.{◌≡◌, ◌+◌, ◌-◌, ◌*◌, ◌^◌, ◌++◌, get_or, true, false, [], ◌∷◌, replicate, refl}
use Rattle.mask_tasks.specs.declared.sizes.KeySize.TheVariants.{K80, K128}
use Rattle.mask_tasks.specs.declared.tasks.Task.TheVariants.{Present}
use Rattle.mask_parts.specs.PresentSbox.{sbox}
use Rattle.mask_present.specs.Present.{substituted, permuted, round_key, rotated, replaced, updated, register_after, block_after, encrypted, present}
use Rattle.mask_modes.specs.CounterMode.{keystream, ciphertext_from}
use Rattle.mask_ciphers.specs.Tasks.{output, key_shares}
use Rattle.mask_ciphers.specs.Totals.{total}

-- WHAT IS WRITTEN

zero_key_80 : output (Present K80 0) (replicate 10 0) (replicate 8 0) ≡ 0x55 ∷ 0x79 ∷ 0xc1 ∷ 0x38 ∷ 0x7b ∷ 0x22 ∷ 0x84 ∷ 0x45 ∷ []
unfolding output ciphertext_from keystream present encrypted block_after register_after round_key updated rotated replaced substituted sbox permuted
zero_key_80 = refl

-- the greatest counter is followed by 0, and the last block is short
ones_key_80 : output (Present K80 (2 ^ 64 - 1)) (replicate 10 0xff) (replicate 9 0)
    ≡ 0x33 ∷ 0x33 ∷ 0xdc ∷ 0xd3 ∷ 0x21 ∷ 0x32 ∷ 0x10 ∷ 0xd2 ∷ 0xe7 ∷ []
unfolding output ciphertext_from keystream present encrypted block_after register_after round_key updated rotated replaced substituted sbox permuted
ones_key_80 = refl

zero_key_128 : output (Present K128 0) (replicate 16 0) (replicate 8 0) ≡ 0x96 ∷ 0xdb ∷ 0x70 ∷ 0x2a ∷ 0x2e ∷ 0x69 ∷ 0x00 ∷ 0xaf ∷ []
unfolding output ciphertext_from keystream present encrypted block_after register_after round_key updated rotated replaced substituted sbox permuted
zero_key_128 = refl

-- WHAT IS DRAWN, in bits

-- 65 blocks and a refresh of the key: 43,869 bytes
long_at_order_1 : total (Present K80 0) 1 520 ≡ 65 * 5398 + 80
unfolding total
long_at_order_1 = refl

one_block_at_order_7 : total (Present K80 0) 7 8 ≡ 149_800
unfolding total
one_block_at_order_7 = refl

nothing_of_nothing : total (Present K128 5) 3 0 ≡ 0
unfolding total
nothing_of_nothing = refl

-- WHAT IS SHARED

-- two lines of a key whose last bytes are 1 and 3: bit 0 is 1 in both, bit 1 in the second alone
two_lines : get_or (key_shares (Present K80 0) ((replicate 9 0 ++ 1 ∷ []) ∷ (replicate 9 0 ++ 3 ∷ []) ∷ [])) 0 [] ≡ true ∷ true ∷ []
unfolding key_shares
two_lines = refl

two_lines_apart : get_or (key_shares (Present K80 0) ((replicate 9 0 ++ 1 ∷ []) ∷ (replicate 9 0 ++ 3 ∷ []) ∷ [])) 1 [] ≡ false ∷ true ∷ []
unfolding key_shares
two_lines_apart = refl
