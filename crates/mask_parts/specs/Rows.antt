-- Two rows of values, and the XOR of each two in the same place.
use Rattle.std.specs.Prelude.{ℕ, Bool, List, [], ◌∷◌}
use Rattle.mask_circuit.specs.declared.gates.Gate.{Gate}
use Rattle.mask_circuit.specs.declared.gates.Gate.TheVariants.{Xor}
use Rattle.mask_circuit.specs.Value.{xor}

-- a gate for each two, as far as both rows go
unfoldable pub xor_gates : List ℕ → List ℕ → List Gate
xor_gates [] vs = []
xor_gates (u ∷ us) [] = []
xor_gates (u ∷ us) (v ∷ vs) = Xor u v ∷ xor_gates us vs

-- the bits that they make
unfoldable pub xor_bits : List Bool → List Bool → List Bool
xor_bits [] ys = []
xor_bits (x ∷ xs) [] = []
xor_bits (x ∷ xs) (y ∷ ys) = xor x y ∷ xor_bits xs ys
