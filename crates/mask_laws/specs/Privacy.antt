-- Nothing is learned of the bits that are shared.
use Rattle.std.specs.Prelude.{ℕ, ◌≤◌, List}
use Rattle.mask_circuit.specs.Netlist.{Netlist, IsWellFormed}
use Rattle.mask_circuit.specs.Acceptance.{IsAccepted}
use Rattle.mask_circuit.specs.Privacy.{IsPrivate, IsPrivateCall}
use Rattle.mask_laws.specs.Runs.{Call, IsPrivateRun, IsStrongRun}

-- An accepted circuit is private ..
abbrev pub AcceptedIsPrivate : Type 0
AcceptedIsPrivate = (c : Netlist) (N : ℕ) → 2 ≤ N → IsWellFormed c → IsAccepted c → IsPrivate c N

-- .. and so is a call of it that draws all its coins from one tape.
abbrev pub AcceptedCallIsPrivate : Type 0
AcceptedCallIsPrivate = (c : Netlist) (N : ℕ) → 2 ≤ N → IsWellFormed c → IsAccepted c → IsPrivateCall c N

-- A run of strong calls is private.
abbrev pub StrongRunIsPrivate : Type 0
StrongRunIsPrivate = (calls : List Call) (N : ℕ) → 2 ≤ N → IsStrongRun calls → IsPrivateRun calls N
