-- Circuits as plain data, which contracts see in place of a `Circuit` or a `Builder`.
use Rattle.std.specs.Prelude.{ℕ, suc, ◌+◌, ◌<◌, ◌≤◌, Bool, true, false, List, [], ◌∷◌, ◌++◌, length, All, count_by}
use Rattle.mask_circuit.specs.declared.gates.Gate.{Gate}
use Rattle.mask_circuit.specs.declared.gates.Gate.TheVariants.{Zero, One, Xor, Not, And, Ref}

-- How many inputs, the gates in order, and the values handed out in order. Values are numbered from 0: the inputs
-- first, then one for each gate.
pub record Netlist : Type 0 where
  pub inputs : ℕ
  pub gates : List Gate
  pub outputs : List ℕ

abbrev pub value_count : Netlist → ℕ
value_count c = c.inputs + length c.gates

-- the operands of a gate are below n
abbrev pub OperandsBelow : ℕ → Gate → Type 0
OperandsBelow n Zero = Unit {0}
OperandsBelow n One = Unit {0}
OperandsBelow n (Xor u v) = (u < n) × (v < n)
OperandsBelow n (Not u) = u < n
OperandsBelow n (And u v) = (u < n) × (v < n)
OperandsBelow n (Ref u) = u < n

-- the operands of each gate are earlier values, where the first gate of the list makes value n
abbrev pub AreGates : ℕ → List Gate → Type 0
AreGates n [] = Unit {0}
AreGates n (g ∷ gs) = OperandsBelow n g × AreGates (suc n) gs

-- operands are earlier values, and outputs are values
pub record IsWellFormed (c : Netlist) : Type 0 where
  pub gates : AreGates c.inputs c.gates
  pub outputs : All (λ u. u < value_count c) c.outputs

-- so it is, with at most 1,000,000 values and 1,000,000 outputs
pub record IsCircuit (c : Netlist) : Type 0 where
  pub formed : IsWellFormed c
  pub few_values : value_count c ≤ 1_000_000
  pub few_outputs : length c.outputs ≤ 1_000_000

-- a circuit of inputs alone
abbrev pub only_inputs : ℕ → Netlist
only_inputs n = record { inputs = n; gates = []; outputs = [] }

-- one more gate, at the end
abbrev pub with_gate : Netlist → Gate → Netlist
with_gate c g = record c { gates = c.gates ++ g ∷ [] }

-- one more output, at the end
abbrev pub with_output : Netlist → ℕ → Netlist
with_output c u = record c { outputs = c.outputs ++ u ∷ [] }

abbrev pub is_product : Gate → Bool
is_product Zero = false
is_product One = false
is_product (Xor u v) = false
is_product (Not u) = false
is_product (And u v) = true
is_product (Ref u) = false

abbrev pub is_refresh : Gate → Bool
is_refresh Zero = false
is_refresh One = false
is_refresh (Xor u v) = false
is_refresh (Not u) = false
is_refresh (And u v) = false
is_refresh (Ref u) = true

-- how many products the circuit has
abbrev pub product_count : Netlist → ℕ
product_count c = count_by is_product c.gates

-- how many refreshes the circuit has
abbrev pub refresh_count : Netlist → ℕ
refresh_count c = count_by is_refresh c.gates
