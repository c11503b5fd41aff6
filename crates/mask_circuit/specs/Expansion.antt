-- A circuit expanded into n shares of each value: its wires, its output shares, and the fresh bits that it draws.
use Rattle.std.specs.Prelude.{ℕ, zero, suc, ◌+◌, cond, ◌==◌, List, [], ◌∷◌, ◌++◌, map, length, take, drop, sum_by, Some, None}
use Rattle.std.specs.declared.option.Option.{Option}
use Rattle.mask_circuit.specs.declared.gates.Gate.{Gate}
use Rattle.mask_circuit.specs.Netlist.{Netlist}
use Rattle.mask_circuit.specs.Ring.{Ring}
use Rattle.mask_circuit.specs.declared.gates.Wire.{Wire}
use Rattle.mask_circuit.specs.declared.gates.Wire.TheVariants.{Share}
use Rattle.mask_circuit.specs.Wires.{Shares, each, joined, share_names, gate_names, gate_draws, gate_wire, share_wire}
use Rattle.mask_circuit.specs.Acceptance.{gate_at}

-- What the wires of each value carry, by value number and name.
abbrev pub Carried : Type 0 → Type 0
Carried X = ℕ → Wire → X

-- share i of value u
abbrev pub shares_of : {X : Type 0} → Carried X → ℕ → Shares X
shares_of t u i = t u (Share i)

-- value n gets these wires, and the others stay
abbrev pub put : {X : Type 0} → ℕ → (Wire → X) → Carried X → Carried X
put n wires t v w = cond (v == n) (wires w) (t v w)

-- the input shares x before any gate
abbrev pub start : {X : Type 0} → Ring X → (ℕ → Shares X) → Carried X
start R x v = share_wire R (x v)

-- the wires after these gates, the first of which makes value n; r has their fresh bits in order
abbrev pub run : {X : Type 0} → Ring X → ℕ → List Gate → ℕ → Carried X → List X → Carried X
run R N [] n t r = t
run R N (g ∷ gs) n t r =
    run R N gs (suc n) (put n (gate_wire R N g (shares_of t) (take (gate_draws N g) r)) t) (drop (gate_draws N g) r)

-- the wires of the circuit on the input shares x and the fresh bits r
abbrev pub expand : {X : Type 0} → Ring X → Netlist → ℕ → (ℕ → Shares X) → List X → Carried X
expand R c N x r = run R N c.gates c.inputs (start R x) r

-- how many fresh bits the circuit draws
abbrev pub draws : Netlist → ℕ → ℕ
draws c N = sum_by (gate_draws N) c.gates

-- A wire of a circuit: the value whose input or gate makes it, and its name there.
abbrev pub CircuitWire : Type 0
CircuitWire = ℕ × Wire

-- the wires of these gates, the first of which makes value n
abbrev pub names_from : ℕ → List Gate → ℕ → List CircuitWire
names_from N [] n = []
names_from N (g ∷ gs) n = map (λ w. (n, w)) (gate_names N g) ++ names_from N gs (suc n)

-- all wires of the circuit: the input shares, and then the wires of each gate; the place in this list is a wire's number
abbrev pub names : Netlist → ℕ → List CircuitWire
names c N = joined (λ v. each (λ i. (v, Share i)) N) c.inputs ++ names_from N c.gates c.inputs

-- how many wires there are
abbrev pub wire_count : Netlist → ℕ → ℕ
wire_count c N = length (names c N)

-- the names of the wires of a value with this gate; an input has its shares
abbrev pub names_by : ℕ → Option Gate → List Wire
names_by N None = share_names N
names_by N (Some g) = gate_names N g

-- the names of the wires of value v: the place in this list is a wire's local number there
abbrev pub names_of : Netlist → ℕ → ℕ → List Wire
names_of c N v = names_by N (gate_at c v)

-- how many wires the values before v have
abbrev pub wires_before : Netlist → ℕ → ℕ → ℕ
wires_before c N zero = 0
wires_before c N (suc v) = wires_before c N v + length (names_of c N v)

-- what all wires carry, by wire number
abbrev pub wires : {X : Type 0} → Ring X → Netlist → ℕ → (ℕ → Shares X) → List X → List X
wires R c N x r = map (λ p. expand R c N x r p.0 p.1) (names c N)

-- the N shares of each output
abbrev pub outs : {X : Type 0} → Ring X → Netlist → ℕ → (ℕ → Shares X) → List X → List (List X)
outs R c N x r = map (λ u. each (shares_of (expand R c N x r) u) N) c.outputs
