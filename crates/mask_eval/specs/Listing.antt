-- What a watch keeps that keeps all.
use Rattle.std.specs.Prelude.{◌≡◌, ℕ, suc, ◌+◌, ◌*◌, List, [], ◌∷◌, ◌++◌, length, map, take, drop, All}
use Rattle.mask_bits.specs.Lanes.{lane}
use Rattle.mask_circuit.specs.Netlist.{Netlist}
use Rattle.mask_circuit.specs.Expansion.{draws}
use Rattle.mask_eval.specs.Watching.{Told, Awaited}
use Rattle.mask_eval.specs.declared.listing.Seen.{Seen}

-- what was told, and blanks for the next reports
pub record Listed : Type 0 where
  pub told : List Told
  pub blank : List Told

abbrev pub as_told : Seen → Told
as_told s = record { circuit = s.circuit; order = s.order; inputs = s.inputs; tape = s.tape; outputs = s.outputs }

-- a record for this circuit and order, with room for the bits
pub record IsBlank (c : Netlist) (order : ℕ) (t : Told) : Type 0 where
  pub circuit : t.circuit ≡ c
  pub order_is : t.order ≡ order
  pub inputs : length t.inputs ≡ (order + 1) * c.inputs
  pub tape : length t.tape ≡ draws c (order + 1)
  pub outputs : length t.outputs ≡ (order + 1) * length c.outputs

-- one for each lane
pub record AreBlank (c : Netlist) (order lanes : ℕ) (ts : List Told) : Type 0 where
  pub count : length ts ≡ lanes
  pub each_is : All (IsBlank c order) ts

-- one for each lane of each evaluation, in order
abbrev pub AreBlanksFor : List Awaited → List Told → Type 0
AreBlanksFor [] ts = ts ≡ []
AreBlanksFor (e ∷ es) ts = AreBlank e.circuit e.order e.lanes (take e.lanes ts) × AreBlanksFor es (drop e.lanes ts)

-- blanks were added
pub record Added (c : Netlist) (order lanes : ℕ) (old new : List Seen) : Type 0 where
  pub more : List Seen
  pub is : new ≡ old ++ more
  pub blank : AreBlank c order lanes (map as_told more)

-- records with the bits of the lanes from l on
abbrev pub filled : List ℕ → List ℕ → List ℕ → ℕ → List Seen → List Seen
filled inputs coins outputs l [] = []
filled inputs coins outputs l (s ∷ ss) =
    record s { inputs = lane l inputs; tape = lane l coins; outputs = lane l outputs } ∷ filled inputs coins outputs (suc l) ss
