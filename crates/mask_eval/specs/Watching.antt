-- What a watch is told, and what it is ready for.
use Rattle.std.specs.Prelude.{◌≡◌, ℕ, suc, Bool, List, [], ◌∷◌, ◌++◌, length, All}
use Rattle.std.specs.List.{flat_map}
use Rattle.mask_bits.specs.Lanes.{lane}
use Rattle.mask_circuit.specs.Netlist.{Netlist}
use Rattle.mask_circuit.specs.Ring.{bits}
use Rattle.mask_circuit.specs.Wires.{each}
use Rattle.mask_circuit.specs.Expansion.{draws, outs}
use Rattle.mask_circuit.specs.Sharing.{all_listed}
pub use Rattle.mask_gadget.specs.Wiring.{told_more}

-- One evaluation in one lane: the shares of the inputs value by value, the bits that products and refreshes drew, and
-- the shares of the outputs. The order is the number of shares less one.
pub record Told : Type 0 where
  pub circuit : Netlist
  pub order : ℕ
  pub inputs : List Bool
  pub tape : List Bool
  pub outputs : List Bool

-- one record for each lane, in order
abbrev pub reports : Netlist → ℕ → List ℕ → List ℕ → List ℕ → ℕ → List Told
reports c order inputs coins outputs lanes =
    each (λ l. record { circuit = c; order = order; inputs = lane l inputs; tape = lane l coins; outputs = lane l outputs }) lanes

-- the shares of all values, one value after another
abbrev pub value_by_value : List (List Bool) → List Bool
value_by_value values = flat_map (λ shares. shares) values

-- The record is an evaluation: the circuit expanded into shares takes the told shares of the inputs, value by value, to the
-- told shares of the outputs, with the told bits as its tape.
pub record IsEvaluation (t : Told) : Type 0 where
  pub shares : List (List Bool)
  pub count : length shares ≡ t.circuit.inputs
  pub sizes : All (λ value. length value ≡ suc t.order) shares
  pub inputs : t.inputs ≡ value_by_value shares
  pub tape : length t.tape ≡ draws t.circuit (suc t.order)
  pub outputs : t.outputs ≡ value_by_value (outs bits t.circuit (suc t.order) (all_listed bits shares) t.tape)

-- An evaluation that is still to come.
pub record Awaited : Type 0 where
  pub circuit : Netlist
  pub order : ℕ
  pub lanes : ℕ

abbrev pub awaited : Netlist → ℕ → ℕ → Awaited
awaited c order lanes = record { circuit = c; order = order; lanes = lanes }

-- ready for this evaluation, and then for others
abbrev pub IsReadyFor : (List Awaited → Type 0) → Netlist → ℕ → ℕ → Type 0
IsReadyFor ready c order lanes = (rest : List Awaited) × ready (awaited c order lanes ∷ rest)

-- ready for all that it was ready for, in the same order, and then for this evaluation
abbrev pub BecomesReadyFor : (List Awaited → Type 0) → (List Awaited → Type 0) → Netlist → ℕ → ℕ → Type 0
BecomesReadyFor before now c order lanes = (queue : List Awaited) → before queue → now (queue ++ awaited c order lanes ∷ [])

-- ready for all that it was ready for
abbrev pub StaysReady : (List Awaited → Type 0) → (List Awaited → Type 0) → Type 0
StaysReady before now = (queue : List Awaited) → before queue → now queue

-- ready for the others behind this evaluation, which it was ready for first
abbrev pub StaysReadyBehind : (List Awaited → Type 0) → (List Awaited → Type 0) → Netlist → ℕ → ℕ → Type 0
StaysReadyBehind before now c order lanes = (rest : List Awaited) → before (awaited c order lanes ∷ rest) → now rest
