-- What a machine is told of a circuit.
use Rattle.std.specs.Prelude.{ℕ, suc, ◌*◌, List, [], ◌∷◌, ◌++◌, take, drop}
use Rattle.mask_circuit.specs.declared.gates.Gate.{Gate}
use Rattle.mask_circuit.specs.Netlist.{Netlist}
use Rattle.mask_circuit.specs.Ring.{Ring}
use Rattle.mask_circuit.specs.Wires.{Shares, gate_draws, gate_wire, gate_wires}
use Rattle.mask_circuit.specs.Expansion.{Carried, shares_of, put, wires}

-- what the wires that gates make carry: all wires but the input shares, which stand first
abbrev pub made_wires : {X : Type 0} → Ring X → Netlist → ℕ → (ℕ → Shares X) → List X → List X
made_wires R c N x r = drop (N * c.inputs) (wires R c N x r)

-- for the steps of the loop: the wires of these gates, one gate after another, the first of which makes value n
abbrev pub wires_from : {X : Type 0} → Ring X → ℕ → List Gate → ℕ → Carried X → List X → List X
wires_from R N [] n t r = []
wires_from R N (g ∷ gs) n t r =
    gate_wires R N g (shares_of t) (take (gate_draws N g) r)
    ++ wires_from R N gs (suc n) (put n (gate_wire R N g (shares_of t) (take (gate_draws N g) r)) t) (drop (gate_draws N g) r)
