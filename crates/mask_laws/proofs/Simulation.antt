-- From the shift to non-interference.
use Rattle.std.proofs.Common.{◌≡◌, ℕ, List, length, arith}
use Rattle.std.proofs.lemmas.List.{length-map}
use Rattle.mask_circuit.specs.Netlist.{Netlist, AreGates}
use Rattle.mask_circuit.specs.Probing.{HasAtMost}
use Rattle.mask_circuit.specs.Need.{need, probes_at}
use Rattle.mask_circuit.specs.Acceptance.{Input, IsAccepted}
use Rattle.mask_circuit.proofs.GateAt.{AreGatesAt-all}
use Rattle.mask_laws.specs.Gadgets.{GateKeeps}
use Rattle.mask_laws.specs.Circuits.{AcceptedFits, AcceptedIsNI, AcceptedIsSimulated, AcceptedNeedsFew}
use Rattle.mask_laws.proofs.Fitting.{FitsFrom-accepted, source_count}
use Rattle.mask_laws.proofs.Seen.{fitting_is_simulated}

length-probes_at : (c : Netlist) (N : ℕ) (P : List ℕ) → length (probes_at c N P) ≡ length P
length-probes_at c N P = length-map P _

pub accepted_needs_few : AcceptedNeedsFew
accepted_needs_few c N P are accepted s source =
    let count = source_count c N (probes_at c N P) accepted c.gates c.inputs (AreGatesAt-all c) are s source in
    let same = length-probes_at c N P in omega arith

pub accepted_fits : AcceptedFits
accepted_fits c N P are accepted few =
    let same = length-probes_at c N P in
    FitsFrom-accepted c N (probes_at c N P) accepted (omega arith) c.gates c.inputs (AreGatesAt-all c) are

-- the need of probes has no more shares of an input than there are probes
accepted_has_at_most : (c : Netlist) (N : ℕ) (P : List ℕ) → AreGates c.inputs c.gates → IsAccepted c → HasAtMost c N (need c N P) (length P)
accepted_has_at_most c N P are accepted v below = let few = accepted_needs_few c N P are accepted v (Input below) in omega arith

pub accepted_is_simulated : GateKeeps → AcceptedIsSimulated
accepted_is_simulated keeps c N P two are accepted places few =
    (accepted_has_at_most c N P are accepted, fitting_is_simulated keeps c N P two are places (accepted_fits c N P are accepted few))

pub accepted_is_ni : GateKeeps → AcceptedIsNI
accepted_is_ni keeps c N two are accepted P places few =
    let both = accepted_is_simulated keeps c N P two are accepted places few in (need c N P, both.0, both.1)
