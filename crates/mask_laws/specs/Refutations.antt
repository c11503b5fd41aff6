-- What the definitions rule out: circuits and a run that don't meet them.
use Rattle.std.specs.Prelude.{ℕ, ◌≤◌, List, [], ◌∷◌}
use Rattle.mask_circuit.specs.declared.gates.Gate.TheVariants.{And, Ref}
use Rattle.mask_circuit.specs.Netlist.{Netlist, IsWellFormed}
use Rattle.mask_circuit.specs.Probing.{ShareSets, size, IsNI, IsSNI}
use Rattle.mask_circuit.specs.Acceptance.{IsStrong}
use Rattle.mask_circuit.specs.Privacy.{IsPrivate, IsPrivateCall}
use Rattle.mask_laws.specs.Runs.{Call, Variable, IsRunSimulated, IsPrivateRun}

-- the product of a value by itself
abbrev pub squared : Netlist
squared = record { inputs = 1; gates = And 0 0 ∷ []; outputs = 1 ∷ [] }

-- On two shares its wire a_0 · a_1 shows more than one share of the input: it is not non-interfering, and not private.
abbrev pub SquaredLeaks : Type 0
SquaredLeaks = (IsNI squared 2 → ⊥) × (IsPrivate squared 2 → ⊥) × (IsPrivateCall squared 2 → ⊥)

-- an input that is handed out as it is
abbrev pub handed_on : Netlist
handed_on = record { inputs = 1; gates = []; outputs = 0 ∷ [] }

-- It is non-interfering, and not strongly so: its output share shows a share of the input, with no wire probed.
abbrev pub HandedOnIsNotSNI : Type 0
HandedOnIsNotSNI = ((N : ℕ) → 2 ≤ N → IsNI handed_on N) × (IsSNI handed_on 2 → ⊥)

-- the product of two inputs, refreshed
abbrev pub refreshed_product : Netlist
refreshed_product = record { inputs = 2; gates = And 0 1 ∷ Ref 2 ∷ []; outputs = 3 ∷ [] }

-- a run of it that takes one variable for both inputs
abbrev pub taken_twice : List Call
taken_twice = record { circuit = refreshed_product; origins = Variable 0 ∷ Variable 0 ∷ [] } ∷ []

-- The circuit is strong, but in this run its wire a_0 · b_1 isn't simulated from one share of the variable, and the run
-- isn't private.
abbrev pub TakenTwiceLeaks : Type 0
TakenTwiceLeaks = IsWellFormed refreshed_product × IsStrong refreshed_product
    × ((I : ShareSets) → size 2 (I 0) ≤ 1 → IsRunSimulated taken_twice 2 (5 ∷ []) I → ⊥)
    × (IsPrivateRun taken_twice 2 → ⊥)
