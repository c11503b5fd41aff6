-- What an admitted circuit keeps, and what a refusal says.
use Rattle.mask_circuit.specs.Netlist.{Netlist, IsCircuit}
use Rattle.mask_circuit.specs.Acceptance.{IsAccepted, IsClash}
use Rattle.mask_check.specs.declared.admission.AdmitError.{AdmitError}
use Rattle.mask_check.specs.declared.admission.AdmitError.TheVariants.{Refused, NoMemory}

-- the refused circuit has this clash
abbrev pub IsRefusal : Netlist → AdmitError → Type 0
IsRefusal c (Refused p s) = IsClash c p s
IsRefusal c NoMemory = Unit {0}

-- what an admitted circuit keeps
pub record IsAdmitted (c : Netlist) : Type 0 where
  pub circuit : IsCircuit c
  pub accepted : IsAccepted c
