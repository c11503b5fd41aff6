-- The wires of a circuit by number and by name, and what they carry.
use Rattle.std.specs.Prelude.{◌≡◌, ℕ, ◌+◌, ◌<◌, ◌≤◌, Bool, List, take, drop, sum_by, slice_get, Some}
use Rattle.mask_circuit.specs.declared.gates.Gate.{Gate}
use Rattle.mask_circuit.specs.Netlist.{Netlist, AreGates, value_count}
use Rattle.mask_circuit.specs.Ring.{Ring, bits, words}
use Rattle.mask_circuit.specs.declared.gates.Wire.{Wire}
use Rattle.mask_circuit.specs.declared.gates.Wire.TheVariants.{Share}
use Rattle.mask_circuit.specs.Wires.{Shares, gate_draws, gate_wire, share_wire}
use Rattle.mask_circuit.specs.Expansion.{expand, shares_of, names, names_of, wires_before, wire_count}
use Rattle.mask_circuit.specs.Probing.{share_place}

-- Wires are numbered value by value: the wire of local number k of value v stands k after all those of earlier values.
abbrev pub WiresInOrder : Type 0
WiresInOrder = (c : Netlist) (N v k : ℕ) (w : Wire) → v < value_count c →
    slice_get (names_of c N v) k ≡ Some w → slice_get (names c N) (wires_before c N v + k) ≡ Some (v, w)

-- The values' wires are all there are.
abbrev pub WiresAreCounted : Type 0
WiresAreCounted = (c : Netlist) (N : ℕ) → wire_count c N ≡ wires_before c N (value_count c)

-- The number that `share_place` gives for share i of value u is that wire's.
abbrev pub SharesHavePlaces : Type 0
SharesHavePlaces = (c : Netlist) (N u i : ℕ) → 2 ≤ N → u < value_count c → i < N →
    slice_get (names c N) (share_place c N u i) ≡ Some (u, Share i)

-- the fresh bits of gate k: they follow those of the gates before it
abbrev pub stretch : {X : Type 0} → Netlist → ℕ → ℕ → Gate → List X → List X
stretch c N k g r = take (gate_draws N g) (drop (sum_by (gate_draws N) (take k c.gates)) r)

-- An input has its shares for wires, and gate k has the wires that its gadget makes of the shares of its operands and of
-- its own fresh bits.
pub record HasGateWires {X : Type 0} (R : Ring X) (c : Netlist) (N : ℕ) (x : ℕ → Shares X) (r : List X) : Type 0 where
  pub of_input : (v : ℕ) (w : Wire) → v < c.inputs → expand R c N x r v w ≡ share_wire R (x v) w
  pub of_gate : (k : ℕ) (g : Gate) (w : Wire) → slice_get c.gates k ≡ Some g →
      expand R c N x r (c.inputs + k) w ≡ gate_wire R N g (shares_of (expand R c N x r)) (stretch c N k g r) w

-- So are the wires of each circuit whose gates take earlier values, on bits and on words.
abbrev pub WiresAreGates : Type 0
WiresAreGates = (c : Netlist) (N : ℕ) → AreGates c.inputs c.gates →
    ((x : ℕ → Shares Bool) (r : List Bool) → HasGateWires bits c N x r) × ((x : ℕ → Shares ℕ) (r : List ℕ) → HasGateWires words c N x r)
