-- What a verdict says of a circuit.
use Rattle.std.specs.Prelude.{ℕ, ◌<◌}
use Rattle.mask_circuit.specs.Netlist.{Netlist}
use Rattle.mask_circuit.specs.Acceptance.{IsShared, IsAccepted, IsClash}
use Rattle.mask_check.specs.declared.verdicts.Verdict.{Verdict}
use Rattle.mask_check.specs.declared.verdicts.Verdict.TheVariants.{Accepted, Refused}

-- the verdict is right: accepted, or the clash
abbrev pub IsVerdict : Netlist → Verdict → Type 0
IsVerdict c Accepted = IsAccepted c
IsVerdict c (Refused p s) = IsClash c p s

-- no product below n has operands that share a source
abbrev pub IsAcceptedBelow : Netlist → ℕ → Type 0
IsAcceptedBelow c n = (p s : ℕ) → p < n → IsShared c p s → ⊥

-- the verdict is right where only the products below n count
abbrev pub IsVerdictBelow : Netlist → ℕ → Verdict → Type 0
IsVerdictBelow c n Accepted = IsAcceptedBelow c n
IsVerdictBelow c n (Refused p s) = IsClash c p s
