-- What a frame holds for a circuit.
use Rattle.std.specs.Prelude.{◌≡◌, ℕ, List, length, take}
use Rattle.mask_circuit.specs.Netlist.{Netlist, value_count}

-- how many inputs there are, the shares of all values, inputs first, and the shares of the outputs
pub record Held : Type 0 where
  pub inputs : ℕ
  pub values : List (List ℕ)
  pub outputs : List (List ℕ)

-- the shares of the inputs
abbrev pub input_values : Held → List (List ℕ)
input_values f = take f.inputs f.values

-- it has room for this circuit
pub record IsFrameOf (f : Held) (c : Netlist) : Type 0 where
  pub inputs : f.inputs ≡ c.inputs
  pub values : length f.values ≡ value_count c
  pub outputs : length f.outputs ≡ length c.outputs
