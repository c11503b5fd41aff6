-- The definitions of parts at worked examples, computed.
use Rattle.std.proofs.Common.{◌≡◌, true, false, [], ◌∷◌, refl, map, length}
use Rattle.std.specs.List.{count_by}
use Rattle.mask_bits.specs.Reading.{number}
use Rattle.mask_circuit.specs.declared.gates.Gate.TheVariants.{Xor, Not, And, Ref}
use Rattle.mask_circuit.specs.Netlist.{only_inputs, is_product, is_refresh}
use Rattle.mask_circuit.specs.Value.{value_at, plain}
use Rattle.mask_parts.specs.declared.tables.Place.TheVariants.{Given, Made}
use Rattle.mask_parts.specs.declared.tables.Step.TheVariants.{Xor as XorStep, Product}
use Rattle.mask_parts.specs.Drafts.{with_gates, with_outputs}
use Rattle.mask_parts.specs.Tables.{part_usable, is_part}
use Rattle.mask_parts.specs.PresentSbox.{sbox, sbox_steps, sbox_gates, sbox_results, with_sbox}
use Rattle.mask_parts.specs.Fences.{with_fence}

-- THE S-BOX

-- the gates on inputs 0 to 3, written out
sbox_gates-at_inputs : sbox_gates 4 (0 ∷ 1 ∷ 2 ∷ 3 ∷ [])
    ≡ Ref 2 ∷ And 1 4 ∷ Xor 1 2 ∷ Ref 6 ∷ And 3 7 ∷ Ref 3 ∷ And 1 9 ∷ Xor 5 8 ∷ Ref 11 ∷ And 0 12 ∷ Xor 1 3 ∷ Xor 14 8 ∷ Ref 15 ∷ And 0 16
    ∷ Xor 0 2 ∷ Xor 18 3 ∷ Xor 19 5 ∷ Xor 15 13 ∷ Xor 2 3 ∷ Xor 22 10 ∷ Xor 23 17 ∷ Not 24 ∷ Xor 0 14 ∷ Xor 26 5 ∷ Xor 27 13 ∷ Not 28 ∷ []
unfolding sbox_gates sbox_steps
sbox_gates-at_inputs = refl

-- 26 gates, of which five are products and five are refreshes
sbox_counts : (length (sbox_gates 4 (0 ∷ 1 ∷ 2 ∷ 3 ∷ [])) ≡ 26)
    × (count_by is_product (sbox_gates 4 (0 ∷ 1 ∷ 2 ∷ 3 ∷ [])) ≡ 5)
    × (count_by is_refresh (sbox_gates 4 (0 ∷ 1 ∷ 2 ∷ 3 ∷ [])) ≡ 5)
unfolding sbox_gates sbox_steps
sbox_counts = (refl, refl, refl)

-- S(0) = C, S(9) = E and S(15) = 2, by the table and by the circuit
on_nought : (sbox 0 ≡ 12) × (number (plain (with_outputs (with_sbox (only_inputs 4) (0 ∷ 1 ∷ 2 ∷ 3 ∷ [])) (sbox_results 4)) (false ∷ false ∷ false ∷ false ∷ [])) ≡ 12)
unfolding sbox sbox_steps sbox_results with_sbox sbox_gates with_gates with_outputs
on_nought = (refl, refl)

on_nine : (sbox 9 ≡ 14) × (number (plain (with_outputs (with_sbox (only_inputs 4) (0 ∷ 1 ∷ 2 ∷ 3 ∷ [])) (sbox_results 4)) (true ∷ false ∷ false ∷ true ∷ [])) ≡ 14)
unfolding sbox sbox_steps sbox_results with_sbox sbox_gates with_gates with_outputs
on_nine = (refl, refl)

-- TABLES

-- the refresh in a product isn't taken again
taken_again : is_part 2 (Product (Given 0) (Given 1) ∷ XorStep (Made 0) (Given 0) ∷ []) ≡ false
taken_again = refl

-- a value that isn't made yet isn't taken
taken_early : is_part 2 (XorStep (Given 0) (Made 0) ∷ []) ≡ false
taken_early = refl

-- nor one that isn't handed in
taken_past : is_part 2 (XorStep (Given 0) (Given 2) ∷ []) ≡ false
taken_past = refl

-- the S-box is sound, and its results may be taken
sbox_sound : (is_part 4 sbox_steps ≡ true) × (map (value_at (part_usable sbox_steps)) (sbox_results 0) ≡ true ∷ true ∷ true ∷ true ∷ [])
unfolding sbox_steps sbox_results
sbox_sound = (refl, refl)

-- THE FENCE

-- inputs 1 and 0 with fresh shares
fenced : with_fence (only_inputs 2) (1 ∷ 0 ∷ []) ≡ record { inputs = 2; gates = Ref 1 ∷ Ref 0 ∷ []; outputs = 2 ∷ 3 ∷ [] }
unfolding with_fence with_gates with_outputs
fenced = refl
