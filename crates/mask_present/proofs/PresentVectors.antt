-- PRESENT at all zeros and all ones, computed. The values for keys of 80 bits are published (Bogdanov and others, CHES 2007);
-- those for keys of 128 bits are of a program that shares nothing with this definition.
use Rattle.std.proofs.Common.{◌≡◌, ◌-◌, ◌^◌, refl}
use Rattle.mask_tasks.specs.declared.sizes.KeySize.TheVariants.{K80, K128}
use Rattle.mask_parts.specs.PresentSbox.{sbox}
use Rattle.mask_present.specs.Present.{substituted, permuted, round_key, rotated, replaced, updated, register_after, block_after, encrypted, present}

present_80-zero-zero : present K80 0 0 ≡ 0x5579c1387b228445
unfolding present encrypted block_after register_after round_key updated rotated replaced substituted sbox permuted
present_80-zero-zero = refl

present_80-ones-zero : present K80 (2 ^ 80 - 1) 0 ≡ 0xe72c46c0f5945049
unfolding present encrypted block_after register_after round_key updated rotated replaced substituted sbox permuted
present_80-ones-zero = refl

present_80-zero-ones : present K80 0 (2 ^ 64 - 1) ≡ 0xa112ffc72f68417b
unfolding present encrypted block_after register_after round_key updated rotated replaced substituted sbox permuted
present_80-zero-ones = refl

present_80-ones-ones : present K80 (2 ^ 80 - 1) (2 ^ 64 - 1) ≡ 0x3333dcd3213210d2
unfolding present encrypted block_after register_after round_key updated rotated replaced substituted sbox permuted
present_80-ones-ones = refl

present_128-zero-zero : present K128 0 0 ≡ 0x96db702a2e6900af
unfolding present encrypted block_after register_after round_key updated rotated replaced substituted sbox permuted
present_128-zero-zero = refl

present_128-ones-zero : present K128 (2 ^ 128 - 1) 0 ≡ 0x13238c710272a5d8
unfolding present encrypted block_after register_after round_key updated rotated replaced substituted sbox permuted
present_128-ones-zero = refl

present_128-zero-ones : present K128 0 (2 ^ 64 - 1) ≡ 0x3c6019e5e5edd563
unfolding present encrypted block_after register_after round_key updated rotated replaced substituted sbox permuted
present_128-zero-ones = refl

present_128-ones-ones : present K128 (2 ^ 128 - 1) (2 ^ 64 - 1) ≡ 0x628d9fbd4218e5b4
unfolding present encrypted block_after register_after round_key updated rotated replaced substituted sbox permuted
present_128-ones-ones = refl
