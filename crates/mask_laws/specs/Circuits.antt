-- What holds of a whole circuit under the probes P, on N shares of each value: from the law of a single gate to
-- non-interference.
use Rattle.std.specs.Prelude.{◌≡◌, ℕ, suc, ◌+◌, ◌<◌, ◌≤◌, Bool, true, List, [], ◌∷◌, length, All}
use Rattle.mask_circuit.specs.declared.gates.Gate.{Gate}
use Rattle.mask_circuit.specs.declared.gates.Gate.TheVariants.{Zero, One, Xor, Not, And, Ref}
use Rattle.mask_circuit.specs.Netlist.{Netlist, AreGates, value_count}
use Rattle.mask_circuit.specs.Ring.{bits}
use Rattle.mask_circuit.specs.declared.gates.Wire.{Wire}
use Rattle.mask_circuit.specs.declared.gates.Wire.TheVariants.{Share}
use Rattle.mask_circuit.specs.Wires.{Shares}
use Rattle.mask_circuit.specs.Expansion.{CircuitWire, draws, expand, wire_count}
use Rattle.mask_circuit.specs.Probing.{AgreeOn, HasAtMost, IsNI, IsSimulated, seen, size, sum_over_tapes}
use Rattle.mask_circuit.specs.Need.{ShareSet, inner_probes, need, need_from, probes_at}
use Rattle.mask_circuit.specs.Acceptance.{IsAccepted, Reaches}
use Rattle.mask_circuit.specs.Shift.{shift}
use Rattle.mask_laws.specs.Gadgets.{FitsGate}

-- at a product or a refresh the inner probes and the demanded shares together are fewer than the shares
abbrev pub FitsAt : ℕ → Gate → List Wire → ShareSet → Type 0
FitsAt N Zero Q O = Unit {0}
FitsAt N One Q O = Unit {0}
FitsAt N (Xor u v) Q O = Unit {0}
FitsAt N (Not u) Q O = Unit {0}
FitsAt N (And u v) Q O = FitsGate N Q O
FitsAt N (Ref u) Q O = FitsGate N Q O

-- so at each of these gates, the first of which makes value n
abbrev pub FitsFrom : ℕ → List CircuitWire → List Gate → ℕ → Type 0
FitsFrom N P [] n = Unit {0}
FitsFrom N P (g ∷ gs) n = FitsAt N g (inner_probes n P) (need_from P gs (suc n) n) × FitsFrom N P gs (suc n)

-- The probes on wires of these names fit the circuit.
abbrev pub Fits : Netlist → ℕ → List CircuitWire → Type 0
Fits c N P = FitsFrom N P c.gates c.inputs

-- P has numbers of wires
abbrev pub AreWireNumbers : Netlist → ℕ → List ℕ → Type 0
AreWireNumbers c N P = All (λ p. p < wire_count c N) P

-- The shift is as long as the tape, and shifting back gives the tape, whatever the probes.
abbrev pub ShiftReturns : Type 0
ShiftReturns = (c : Netlist) (N : ℕ) (x y : ℕ → Shares Bool) (P : List ℕ) (r : List Bool) → length r ≡ draws c N →
    (length (shift c N x y P r) ≡ draws c N) × (shift c N y x P (shift c N x y P r) ≡ r)

-- The shift takes each tape once: over all tapes a sum of what the shifted tapes give is the sum of what the tapes give.
abbrev pub ShiftReorders : Type 0
ShiftReorders = (c : Netlist) (N : ℕ) (x y : ℕ → Shares Bool) (P : List ℕ) (f : List Bool → ℕ) →
    sum_over_tapes (draws c N) (λ r. f (shift c N x y P r)) ≡ sum_over_tapes (draws c N) f

-- On inputs that agree on the need of probes that fit, the probes see with the shifted tape what they saw with the
-- tape, and each demanded share of each value stays the same.
abbrev pub ShiftKeeps : Type 0
ShiftKeeps = (c : Netlist) (N : ℕ) (x y : ℕ → Shares Bool) (P : List ℕ) (r : List Bool) → 2 ≤ N → AreGates c.inputs c.gates → AreWireNumbers c N P →
    Fits c N (probes_at c N P) → AgreeOn c N (need c N P) x y → length r ≡ draws c N →
    (seen c N y (shift c N x y P r) P ≡ seen c N x r P)
    × ((v i : ℕ) → v < value_count c → i < N → need c N P v i ≡ true → expand bits c N y (shift c N x y P r) v (Share i) ≡ expand bits c N x r v (Share i))

-- Probes that fit are simulated from their need.
abbrev pub FittingIsSimulated : Type 0
FittingIsSimulated = (c : Netlist) (N : ℕ) (P : List ℕ) → 2 ≤ N → AreGates c.inputs c.gates → AreWireNumbers c N P → Fits c N (probes_at c N P) →
    IsSimulated c N P (need c N P)

-- In an accepted circuit the inner probes of each input, product and refresh and the demanded shares of its value are
-- together no more than all probes.
abbrev pub AcceptedNeedsFew : Type 0
AcceptedNeedsFew = (c : Netlist) (N : ℕ) (P : List ℕ) → AreGates c.inputs c.gates → IsAccepted c →
    (s : ℕ) → Reaches c s s → length (inner_probes s (probes_at c N P)) + size N (need c N P s) ≤ length P

-- So fewer probes than shares fit.
abbrev pub AcceptedFits : Type 0
AcceptedFits = (c : Netlist) (N : ℕ) (P : List ℕ) → AreGates c.inputs c.gates → IsAccepted c → length P < N → Fits c N (probes_at c N P)

-- Fewer probes than shares of an accepted circuit are simulated from their need, which has at most as many shares of
-- each input as there are probes.
abbrev pub AcceptedIsSimulated : Type 0
AcceptedIsSimulated = (c : Netlist) (N : ℕ) (P : List ℕ) → 2 ≤ N → AreGates c.inputs c.gates → IsAccepted c → AreWireNumbers c N P → length P < N →
    HasAtMost c N (need c N P) (length P) × IsSimulated c N P (need c N P)

-- An accepted circuit is non-interfering.
abbrev pub AcceptedIsNI : Type 0
AcceptedIsNI = (c : Netlist) (N : ℕ) → 2 ≤ N → AreGates c.inputs c.gates → IsAccepted c → IsNI c N
