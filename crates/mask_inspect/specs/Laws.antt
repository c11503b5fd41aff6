-- What the checks decide: one status, and not both that and none.
use Rattle.std.specs.Prelude.{◌≡◌, ℕ, List}
use Rattle.mask_circuit.specs.Netlist.{Netlist}
use Rattle.mask_text.specs.Text.{IsTextOf}
use Rattle.mask_status.specs.declared.status.Status.{Status}
use Rattle.mask_inspect.specs.Checks.{Check, FirstFailure, AllPass}

abbrev pub FirstFailureIsOne : Type 0
FirstFailureIsOne = (checks : List Check) (text : List ℕ) (a b : Status) → FirstFailure checks text a → FirstFailure checks text b → a ≡ b

abbrev pub NoneFailsWhereAllPass : Type 0
NoneFailsWhereAllPass = (checks : List Check) (text : List ℕ) (status : Status) → AllPass checks text → FirstFailure checks text status → ⊥

abbrev pub TextIsOne : Type 0
TextIsOne = (text : List ℕ) (c d : Netlist) → IsTextOf text c → IsTextOf text d → c ≡ d
