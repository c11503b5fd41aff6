-- The rounds on values at worked examples, computed.
use Rattle.std.proofs.Common.{◌≡◌, ℕ, List, [], ◌∷◌, get_or, take, refl}
use Rattle.std.specs.List.{range_with_len}
use Rattle.mask_circuit.specs.declared.gates.Gate.TheVariants.{Xor, Not}
use Rattle.mask_circuit.specs.Netlist.{only_inputs}
use Rattle.mask_tasks.specs.declared.sizes.KeySize.TheVariants.{K80, K128}
use Rattle.mask_parts.specs.Drafts.{with_gates}
use Rattle.mask_parts.specs.Rows.{xor_gates}
use Rattle.mask_present.specs.Present.{register}
use Rattle.mask_present.specs.Rounds.{stage, xored, key_added, moved, key_rotated, not_gates, key_counted}

-- value k in a list
abbrev at : List ℕ → ℕ → ℕ
at us k = get_or us k 0

-- bit 1 of a block goes to place 16, bit 16 to 4, and bits 0 and 63 stay
moved_bits : (at (moved (range_with_len 0 64)) 16 ≡ 1) × (at (moved (range_with_len 0 64)) 4 ≡ 16)
    × (at (moved (range_with_len 0 64)) 0 ≡ 0) × (at (moved (range_with_len 0 64)) 63 ≡ 63)
unfolding moved
moved_bits = (refl, refl, refl, refl)

-- rotated left by 61, bit 0 of 80 comes to place 61, and bit 19 to place 0; of 128 it's bit 67 that comes there
rotated_80 : (at (key_rotated (register K80) (stage (only_inputs 0) (range_with_len 0 80) [])).key 61 ≡ 0)
    × (at (key_rotated (register K80) (stage (only_inputs 0) (range_with_len 0 80) [])).key 0 ≡ 19)
unfolding stage key_rotated
rotated_80 = (refl, refl)

rotated_128 : at (key_rotated (register K128) (stage (only_inputs 0) (range_with_len 0 128) [])).key 0 ≡ 67
unfolding stage key_rotated
rotated_128 = refl

-- the round key of 80 bits begins at bit 16, and that of 128 bits at bit 64
first_key_bits : (take 2 (key_added (register K80) (stage (only_inputs 144) (range_with_len 0 80) (range_with_len 80 64))).draft.gates ≡ Xor 80 16 ∷ Xor 81 17 ∷ [])
    × (take 2 (key_added (register K128) (stage (only_inputs 192) (range_with_len 0 128) (range_with_len 128 64))).draft.gates ≡ Xor 128 64 ∷ Xor 129 65 ∷ [])
unfolding stage key_added xored xor_gates with_gates
first_key_bits = (refl, refl)

-- the number 5 flips bits 15 and 17 of 80, in this order
counted_80 : (key_counted (register K80) 5 (stage (only_inputs 80) (range_with_len 0 80) [])).draft.gates ≡ Not 15 ∷ Not 17 ∷ []
unfolding stage key_counted not_gates with_gates
counted_80 = refl
