-- What differs between a product and a refresh.
use Rattle.std.specs.Prelude.{ℕ, Bool, List}
use Rattle.std.specs.List.{list_any}
use Rattle.mask_circuit.specs.declared.gates.Wire.{Wire}
use Rattle.mask_circuit.specs.declared.gates.Wire.TheVariants.{Fresh, Left}
use Rattle.mask_circuit.specs.Wires.{product_names, refresh_names}
use Rattle.mask_circuit.specs.Need.{ShareSet, is_of_row, is_update_of, left_need, right_need, refresh_need}
use Rattle.mask_circuit.specs.Shift.{product_mask, refresh_mask}
use Rattle.mask_sni.specs.Asked.{operand_sides}
use Rattle.mask_sni.specs.declared.wires.Kind.{Kind}
use Rattle.mask_sni.specs.declared.wires.Kind.TheVariants.{Product, Refresh}
use Rattle.mask_sni.specs.declared.needs.Operand.{Operand}
use Rattle.mask_sni.specs.declared.needs.Operand.TheVariants.{First, Second, Only}
use Rattle.mask_sni.specs.declared.shifts.Operands.{Operands}
use Rattle.mask_sni.specs.declared.shifts.Operands.TheVariants.{OfProduct, OfRefresh}

-- the wires of a gate
abbrev pub names_for : ℕ → Kind → List Wire
names_for n Product = product_names n
names_for n Refresh = refresh_names n

-- whether a probe on this wire touches share i: row i of a product, an update of share i in a refresh
abbrev pub touches : Kind → ℕ → Wire → Bool
touches Product = is_of_row
touches Refresh = is_update_of

-- the shares that the probes Q touch
abbrev pub touched : Kind → List Wire → ShareSet
touched kind Q i = list_any (touches kind i) Q

-- the wire between two shares that a flip may not touch
abbrev pub pair_wire : Kind → ℕ → ℕ → Wire
pair_wire Product = Left
pair_wire Refresh = Fresh

-- the shares of an operand that the probes Q need
abbrev pub needed : Operand → List Wire → ShareSet
needed First = left_need
needed Second = right_need
needed Only = refresh_need

-- the mask of a gate by pairs
abbrev pub mask_of : Operands → ℕ → List Wire → ShareSet → ℕ → ℕ → Bool
mask_of (OfProduct a b) n Q O = product_mask n Q O (operand_sides a) (operand_sides b)
mask_of (OfRefresh a) n Q O = refresh_mask n Q O (operand_sides a)
