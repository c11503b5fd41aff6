-- What holds of a single gate with inner probes Q and demanded output shares O.
use Rattle.std.specs.Prelude.{◌≡◌, ℕ, ◌+◌, ◌<◌, ◌≤◌, ◌⊎◌, Bool, true, false, List, [], ◌∷◌, length, All, Contains}
use Rattle.mask_circuit.specs.declared.gates.Gate.{Gate}
use Rattle.mask_circuit.specs.declared.gates.Gate.TheVariants.{And, Ref}
use Rattle.mask_circuit.specs.Netlist.{Netlist}
use Rattle.mask_circuit.specs.Ring.{bits}
use Rattle.mask_circuit.specs.declared.gates.Wire.{Wire}
use Rattle.mask_circuit.specs.declared.gates.Wire.TheVariants.{Share}
use Rattle.mask_circuit.specs.Wires.{Shares, gate_names, gate_draws, gate_wire}
use Rattle.mask_circuit.specs.Probing.{size, IsSNI}
use Rattle.mask_circuit.specs.Need.{ShareSet, is_share, demand}
use Rattle.mask_circuit.specs.Shift.{gate_mask, add_bits}

-- inner probes: wires of the gate that are no output shares
abbrev pub AreInner : ℕ → Gate → List Wire → Type 0
AreInner N g Q = All (λ w. Contains (gate_names N g) w × (is_share w ≡ false)) Q

-- the inner probes and the demanded shares together are fewer than the shares
abbrev pub FitsGate : ℕ → List Wire → ShareSet → Type 0
FitsGate N Q O = length Q + size N O < N

-- both sides have the same shares where the gate demands them
abbrev pub AgreeBefore : ℕ → Gate → List Wire → ShareSet → (ℕ → Shares Bool) → (ℕ → Shares Bool) → Type 0
AgreeBefore N g Q O s s' = (v i : ℕ) → i < N → demand g Q O v i ≡ true → s v i ≡ s' v i

-- a wire that is probed, or a demanded output share
abbrev pub IsWatched : ℕ → List Wire → ShareSet → Wire → Type 0
IsWatched N Q O w = Contains Q w ⊎ ((i : ℕ) × (i < N) × (O i ≡ true) × (w ≡ Share i))

-- Each watched wire carries on one side with the fresh bits r what it carries on the other with r and the mask.
abbrev pub GateKeeps : Type 0
GateKeeps = (N : ℕ) (g : Gate) (Q : List Wire) (O : ShareSet) (s s' : ℕ → Shares Bool) (r : List Bool) →
    2 ≤ N → AreInner N g Q → FitsGate N Q O → AgreeBefore N g Q O s s' → length r ≡ gate_draws N g →
    (w : Wire) → IsWatched N Q O w →
    gate_wire bits N g s r w ≡ gate_wire bits N g s' (add_bits r (gate_mask N g Q O s s')) w

-- The mask is the same with the sides changed.
abbrev pub MaskIsSymmetric : Type 0
MaskIsSymmetric = (N : ℕ) (g : Gate) (Q : List Wire) (O : ShareSet) (s s' : ℕ → Shares Bool) →
    gate_mask N g Q O s s' ≡ gate_mask N g Q O s' s

-- a circuit of one product, which is its output, and one of one refresh
abbrev pub lone_product : Netlist
lone_product = record { inputs = 2; gates = And 0 1 ∷ []; outputs = 2 ∷ [] }

abbrev pub lone_refresh : Netlist
lone_refresh = record { inputs = 1; gates = Ref 0 ∷ []; outputs = 1 ∷ [] }

-- Product and refresh are strongly non-interfering.
abbrev pub GadgetsAreSNI : Type 0
GadgetsAreSNI = (N : ℕ) → 2 ≤ N → IsSNI lone_product N × IsSNI lone_refresh N
