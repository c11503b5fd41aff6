-- The definitions of words at worked examples, computed.
use Rattle.std.proofs.Common.{◌≡◌, ℕ, [], ◌∷◌, ◌++◌, List, take, drop, refl}
use Rattle.std.specs.List.{range_with_len}
use Rattle.mask_bits.specs.Reading.{number, lowest}
use Rattle.mask_circuit.specs.declared.gates.Gate.TheVariants.{Xor, And, Ref}
use Rattle.mask_circuit.specs.Netlist.{only_inputs}
use Rattle.mask_circuit.specs.Value.{plain}
use Rattle.mask_parts.specs.Drafts.{with_gates, with_outputs}
use Rattle.mask_parts.specs.Words32.{xor32_steps, xor32_gates, with_xor32, xor32_results, sum32_steps, sum32_gates, with_sum32, sum32_results, rotated32, rol32, constant32}

-- inputs 0 to 31 are x, and inputs 32 to 63 are y
abbrev x : List ℕ
x = range_with_len 0 32

abbrev y : List ℕ
y = range_with_len 32 32

-- bits 0 and 1 of the sum, and bit 31, into which value 246 is the carry
sum_begins : take 9 (sum32_gates 64 x y) ≡ Xor 0 32 ∷ Ref 32 ∷ And 0 65 ∷ Xor 1 66 ∷ Xor 33 66 ∷ Xor 1 68 ∷ Ref 68 ∷ And 67 70 ∷ Xor 71 66 ∷ []
unfolding sum32_gates sum32_steps
sum_begins = refl

sum_ends : drop 183 (sum32_gates 64 x y) ≡ Xor 63 246 ∷ Xor 31 247 ∷ []
unfolding sum32_gates sum32_steps
sum_ends = refl

sum_shown : (take 3 (sum32_results 64) ≡ 64 ∷ 69 ∷ 75 ∷ []) × (drop 30 (sum32_results 64) ≡ 243 ∷ 248 ∷ [])
unfolding sum32_results
sum_shown = (refl, refl)

-- c3efe9db and 44626b02 have the sum 1_085254dd
sum_computed : number (plain (with_outputs (with_sum32 (only_inputs 64) x y) (sum32_results 64)) (lowest 32 0xc3efe9db ++ lowest 32 0x44626b02)) ≡ 0x085254dd
unfolding sum32_gates sum32_steps with_sum32 sum32_results with_gates with_outputs
sum_computed = refl

-- and the XOR 878d82d9
xor_computed : number (plain (with_outputs (with_xor32 (only_inputs 64) x y) (xor32_results 64)) (lowest 32 0xc3efe9db ++ lowest 32 0x44626b02)) ≡ 0x878d82d9
unfolding xor32_gates xor32_steps with_xor32 xor32_results with_gates with_outputs
xor_computed = refl

-- to the left by three places
turned : (take 4 (rotated32 3 x) ≡ 29 ∷ 30 ∷ 31 ∷ 0 ∷ []) × (rol32 3 0x80000001 ≡ 0xc) × (rol32 0 0xc3efe9db ≡ 0xc3efe9db)
unfolding rotated32
turned = (refl, refl, refl)

-- the bits of 6
six : take 4 (constant32 7 9 6) ≡ 7 ∷ 9 ∷ 9 ∷ 7 ∷ []
unfolding constant32
six = refl
