-- Probes by the value whose wires they are on.
use Rattle.std.specs.Prelude.{ℕ, ◌<◌, List, length, map, All, slice_index_or}
use Rattle.mask_circuit.specs.Netlist.{Netlist, value_count}
use Rattle.mask_circuit.specs.declared.gates.Wire.TheVariants.{Share}
use Rattle.mask_circuit.specs.Expansion.{CircuitWire, names_of}
use Rattle.mask_probe.specs.declared.places.Placed.{Placed}

-- the wire of a placed probe
abbrev pub wire_of : Netlist → ℕ → Placed → CircuitWire
wire_of c N p = (p.value, slice_index_or (names_of c N p.value) p.part (Share 0))

-- the wires of all of them
abbrev pub wires_of : Netlist → ℕ → List Placed → List CircuitWire
wires_of c N placed = map (wire_of c N) placed

-- each is a value of the circuit and a local number there
abbrev pub ArePlaced : Netlist → ℕ → List Placed → Type 0
ArePlaced c N placed = All (λ p. (p.value < value_count c) × (p.part < length (names_of c N p.value))) placed
