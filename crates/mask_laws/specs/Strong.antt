-- What holds of strong circuits.
use Rattle.std.specs.Prelude.{ℕ, ◌+◌, ◌<◌, ◌≤◌, Bool, List, ◌++◌, length}
use Rattle.mask_circuit.specs.Netlist.{Netlist, IsWellFormed}
use Rattle.mask_circuit.specs.Probing.{size, HasAtMost, IsSimulated, output_places, IsSNI}
use Rattle.mask_circuit.specs.Need.{need}
use Rattle.mask_circuit.specs.Acceptance.{IsStrong}
use Rattle.mask_laws.specs.Circuits.{AreWireNumbers}

-- the wires P, and the sets O of shares of each output, are as many as strong non-interference allows
pub record AreAllowed (c : Netlist) (N : ℕ) (P : List ℕ) (O : ℕ → ℕ → Bool) : Type 0 where
  pub wires : AreWireNumbers c N P
  pub few : length P < N
  pub fewer : (k : ℕ) → k < length c.outputs → length P + size N (O k) < N

-- Any t wires of a strong circuit, with shares of its outputs beside them, are simulated from the need of the t wires
-- alone, which has at most t shares of each input: shares of outputs need nothing, and the t wires needn't be inner ones.
abbrev pub StrongNeed : Type 0
StrongNeed = (c : Netlist) (N : ℕ) (P : List ℕ) (O : ℕ → ℕ → Bool) → 2 ≤ N → IsWellFormed c → IsStrong c → AreAllowed c N P O →
    HasAtMost c N (need c N P) (length P) × IsSimulated c N (P ++ output_places c N O) (need c N P)

-- So it is strongly non-interfering.
abbrev pub StrongIsSNI : Type 0
StrongIsSNI = (c : Netlist) (N : ℕ) → 2 ≤ N → IsWellFormed c → IsStrong c → IsSNI c N
