-- The definitions of the bridging laws at worked examples, computed.
use Rattle.std.proofs.Common.{◌≡◌, true, false, [], ◌∷◌, Some, None, refl, map}
use Rattle.mask_circuit.specs.declared.gates.Gate.TheVariants.{Xor, Not, And, Ref}
use Rattle.mask_circuit.specs.Netlist.{Netlist}
use Rattle.mask_circuit.specs.Ring.{bits}
use Rattle.mask_circuit.specs.Wires.{each}
use Rattle.mask_circuit.specs.Sharing.{unmasked}
use Rattle.mask_laws.specs.Clashes.{reach, clash}

-- Three shares (1, 0, 1) stand for 0.
three_shares : unmasked bits (true ∷ false ∷ true ∷ []) ≡ false
three_shares = refl

-- Inputs 0 and 1, their sum 2, its negation 3, and a product 4 of value 3 by input 1: both reach input 1.
mixed : Netlist
mixed = record { inputs = 2; gates = Xor 0 1 ∷ Not 2 ∷ And 3 1 ∷ []; outputs = 4 ∷ [] }

-- what each of the values reaches ..
mixed_reach : map (λ u. each (reach mixed u) 5) (0 ∷ 1 ∷ 2 ∷ 3 ∷ 4 ∷ [])
    ≡ (true ∷ false ∷ false ∷ false ∷ false ∷ [])
    ∷ (false ∷ true ∷ false ∷ false ∷ false ∷ [])
    ∷ (true ∷ true ∷ false ∷ false ∷ false ∷ [])
    ∷ (true ∷ true ∷ false ∷ false ∷ false ∷ [])
    ∷ (false ∷ false ∷ false ∷ false ∷ true ∷ [])
    ∷ []
unfolding mixed reach
mixed_reach = refl

-- .. so the clash is at value 4, with input 1
mixed_clash : clash mixed ≡ Some (4, 1)
unfolding mixed reach clash
mixed_clash = refl

-- With the second operand refreshed there is no clash.
refreshed : Netlist
refreshed = record { inputs = 2; gates = Xor 0 1 ∷ Not 2 ∷ Ref 1 ∷ And 3 4 ∷ []; outputs = 5 ∷ [] }

refreshed_clash : clash refreshed ≡ None
unfolding refreshed reach clash
refreshed_clash = refl
