-- The law of a single gate at worked examples, computed, and that its bound can't be dropped.
use Rattle.std.proofs.Common.{◌≡◌, ℕ, Bool, true, false, List, [], ◌∷◌, refl, map}
use Rattle.std.specs.List.{slice_index_or}
use Rattle.mask_circuit.specs.declared.gates.Gate.{Gate}
use Rattle.mask_circuit.specs.declared.gates.Gate.TheVariants.{And, Ref}
use Rattle.mask_circuit.specs.Ring.{bits}
use Rattle.mask_circuit.specs.declared.gates.Wire.{Wire}
use Rattle.mask_circuit.specs.declared.gates.Wire.TheVariants.{Share, Left}
use Rattle.mask_circuit.specs.Wires.{Shares, gate_wire}
use Rattle.mask_circuit.specs.Need.{ShareSet}
use Rattle.mask_circuit.specs.Shift.{gate_mask, add_bits}
use Rattle.mask_circuit.specs.Sharing.{all_listed}
use Rattle.mask_laws.specs.Names.{pair_number, pair_count}

-- a set of shares, from a list
among : List Bool → ShareSet
among bs i = slice_index_or bs i false

-- what the wires ws carry on the second side, where the mask was added to the fresh bits r
on_second : ℕ → Gate → List Wire → ShareSet → (ℕ → Shares Bool) → (ℕ → Shares Bool) → List Bool → List Wire → List Bool
on_second n g Q O s s' r ws = map (gate_wire bits n g s' (add_bits r (gate_mask n g Q O s s'))) ws

-- A product on three shares with v of the pair (0, 1) probed and output share 2 demanded, from operands (1, 0, 0) and
-- (0, 1, 0) to zeros: both wires carry the same, as they wouldn't with the fresh bits left alone.
operands : ℕ → Shares Bool
operands = all_listed bits ((true ∷ false ∷ false ∷ []) ∷ (false ∷ true ∷ false ∷ []) ∷ [])

fresh_zeros : List Bool
fresh_zeros = false ∷ false ∷ false ∷ []

watched : List Wire
watched = Left 0 1 ∷ Share 2 ∷ []

product_first : map (gate_wire bits 3 (And 0 1) operands fresh_zeros) watched ≡ true ∷ false ∷ []
unfolding operands fresh_zeros watched
product_first = refl

product_second : on_second 3 (And 0 1) (Left 0 1 ∷ []) (among (false ∷ false ∷ true ∷ [])) operands (all_listed bits []) fresh_zeros watched ≡ true ∷ false ∷ []
unfolding on_second among operands fresh_zeros watched
product_second = refl

product_unmasked : map (gate_wire bits 3 (And 0 1) (all_listed bits []) fresh_zeros) watched ≡ false ∷ false ∷ []
unfolding fresh_zeros watched
product_unmasked = refl

-- A refresh of two shares with both output shares demanded, which are as many as there are shares: from (0, 0) to
-- (1, 0) their sum changes, so no mask can keep both.
refresh_first : map (gate_wire bits 2 (Ref 0) (all_listed bits []) (false ∷ [])) (Share 0 ∷ Share 1 ∷ []) ≡ false ∷ false ∷ []
refresh_first = refl

refresh_second : on_second 2 (Ref 0) [] (among (true ∷ true ∷ [])) (all_listed bits []) (all_listed bits ((true ∷ false ∷ []) ∷ [])) (false ∷ []) (Share 0 ∷ Share 1 ∷ [])
    ≡ true ∷ false ∷ []
unfolding on_second among
refresh_second = refl

-- Of four shares the pair (1, 3) is the fifth of six.
pair_numbers : (pair_number 4 1 3 ∷ pair_count 4 ∷ []) ≡ 4 ∷ 6 ∷ []
pair_numbers = refl
