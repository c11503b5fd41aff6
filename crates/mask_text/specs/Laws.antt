-- What holds of every text.
use Rattle.std.specs.Prelude.{◌≡◌, ℕ, ◌⊎◌, List, Some, None}
use Rattle.mask_circuit.specs.Netlist.{Netlist, IsCircuit}
use Rattle.mask_circuit.specs.Labels.{LabelledNetlist, IsLabelled, with_plain_groups}
use Rattle.mask_circuit.specs.Text.{canonical, canonical2}
use Rattle.mask_text.specs.Text.{IsText}
use Rattle.mask_text.specs.Faults.{Fault, fault}

-- it stands for one labelled circuit and no other, and has no fault
pub record StandsForOne (bytes : List ℕ) : Type 0 where
  pub labelled : LabelledNetlist
  pub stands : IsText bytes labelled
  pub no_other : (other : LabelledNetlist) → IsText bytes other → other ≡ labelled
  pub no_fault : fault bytes ≡ None

-- it has a first fault, and stands for nothing
pub record IsFaulty (bytes : List ℕ) : Type 0 where
  pub first : Fault
  pub is_first : fault bytes ≡ Some first
  pub stands_for_none : (l : LabelledNetlist) → IsText bytes l → ⊥

-- exactly one of the two holds of each list of bytes
abbrev pub TextOrFault : Type 0
TextOrFault = (bytes : List ℕ) → StandsForOne bytes ⊎ IsFaulty bytes

-- what is written of a circuit stands for it
abbrev pub CanonicalStands : Type 0
CanonicalStands = (c : Netlist) → IsCircuit c → IsText (canonical c) (with_plain_groups c)

abbrev pub Canonical2Stands : Type 0
Canonical2Stands = (l : LabelledNetlist) → IsLabelled l → IsText (canonical2 l) l
