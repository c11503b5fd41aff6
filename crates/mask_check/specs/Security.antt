-- Security at every order at once.
use Rattle.std.specs.Prelude.{ℕ, ◌≤◌}
use Rattle.mask_circuit.specs.Netlist.{Netlist}
use Rattle.mask_circuit.specs.Probing.{IsNI, IsSNI}

-- non-interfering with any number of shares, from two up
abbrev pub IsNIAtEachOrder : Netlist → Type 0
IsNIAtEachOrder c = (N : ℕ) → 2 ≤ N → IsNI c N

-- strongly non-interfering with any number of shares, from two up
abbrev pub IsSNIAtEachOrder : Netlist → Type 0
IsSNIAtEachOrder c = (N : ℕ) → 2 ≤ N → IsSNI c N
