-- What a circuit computes on plain bits.
use Rattle.std.specs.Prelude.{ℕ, Bool, true, false, not, ◌&&◌, List, [], ◌∷◌, ◌++◌, map, slice_index_or}
use Rattle.mask_circuit.specs.declared.gates.Gate.{Gate}
use Rattle.mask_circuit.specs.declared.gates.Gate.TheVariants.{Zero, One, Xor, Not, And, Ref}
use Rattle.mask_circuit.specs.Netlist.{Netlist}

-- the XOR of two bits
abbrev pub xor : Bool → Bool → Bool
xor true b = not b
xor false b = b

-- the value of that number
abbrev pub value_at : List Bool → ℕ → Bool
value_at values u = slice_index_or values u false

-- what a gate makes of the values before it
abbrev pub gate_value : Gate → List Bool → Bool
gate_value Zero values = false
gate_value One values = true
gate_value (Xor u v) values = xor (value_at values u) (value_at values v)
gate_value (Not u) values = not (value_at values u)
gate_value (And u v) values = value_at values u && value_at values v
gate_value (Ref u) values = value_at values u

-- the values so far, and then one for each gate
abbrev pub values_from : List Gate → List Bool → List Bool
values_from [] values = values
values_from (g ∷ gs) values = values_from gs (values ++ gate_value g values ∷ [])

-- all values of the circuit on these input bits
abbrev pub plain_values : Netlist → List Bool → List Bool
plain_values c inputs = values_from c.gates inputs

-- the output bits of the circuit on these input bits
abbrev pub plain : Netlist → List Bool → List Bool
plain c inputs = map (λ u. value_at (plain_values c inputs) u) c.outputs
