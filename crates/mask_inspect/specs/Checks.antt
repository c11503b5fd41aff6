-- What is tested of a circuit text that was read, in order. The first check that fails decides the status.
use Rattle.std.specs.Prelude.{◌≡◌, ◌⊎◌, ℕ, suc, ◌+◌, ◌<◌, ◌≤◌, false, List, [], ◌∷◌, length, take, slice_index, Some}
use Rattle.std.specs.List.{AllWithin}
use Rattle.mask_bits.specs.Reading.{low, bytes_for}
use Rattle.mask_circuit.specs.Netlist.{Netlist}
use Rattle.mask_circuit.specs.Expansion.{wire_count}
use Rattle.mask_circuit.specs.Acceptance.{IsAccepted, IsClash}
use Rattle.mask_laws.specs.Circuits.{AreWireNumbers}
use Rattle.mask_text.specs.Text.{IsTextOf}
use Rattle.mask_text.specs.Faults.{fault, fault_at}
use Rattle.mask_text.specs.declared.errors.Reason.{Reason}
use Rattle.mask_probe.specs.Asking.{AreProbes}
use Rattle.mask_words.specs.WordTests.{Word}
use Rattle.mask_words.specs.Naming.{hex_bytes}
use Rattle.mask_status.specs.declared.status.Status.{Status}
use Rattle.mask_status.specs.declared.status.Status.TheVariants.{Refused, BadWords, BadText, BadProbe}

pub data Check : Type 0 where
  -- the text stands for a circuit
  Grammar : Check
  -- the bits of this word in hexadecimal fit the inputs
  Inputs : (hex : Word) → Check
  -- the circuit is accepted
  Acceptance : Check
  -- these are wires at this order, and no more than the order
  Probes : (order : ℕ) → (wires : List ℕ) → Check

-- the text stands for a circuit with this property
abbrev pub StandsFor : List ℕ → (Netlist → Type 0) → Type 0
StandsFor text P = (c : Netlist) × IsTextOf text c × P c

-- The bytes fit n inputs: there are as many as n bits need, and the bits past these are 0.
abbrev pub FitInputs : List ℕ → ℕ → Type 0
FitInputs bytes n = (length bytes ≡ bytes_for n) × AllWithin (λ bit. bit ≡ false) (low bytes) n (length (low bytes))

-- The word at this place is the first WIRE too many; or they aren't too many, and it is the first that names no wire.
-- The first WIRE is word 5.
abbrev pub IsBadProbe : Netlist → ℕ → List ℕ → ℕ → Type 0
IsBadProbe c N wires place = ((N ≤ length wires) × (place ≡ N + 4))
    ⊎ ((k : ℕ) × (length wires < N) × (k < length wires) × (wire_count c N ≤ slice_index wires k) × AreWireNumbers c N (take k wires) × (place ≡ k + 5))

abbrev pub Passes : Check → List ℕ → Type 0
Passes Grammar text = (c : Netlist) × IsTextOf text c
Passes (Inputs hex) text = StandsFor text (λ c. FitInputs (hex_bytes hex) c.inputs)
Passes Acceptance text = StandsFor text IsAccepted
Passes (Probes order wires) text = StandsFor text (λ c. AreProbes c (suc order) wires)

-- the check fails, and this is the status that says so
abbrev pub FailsWith : Check → List ℕ → Status → Type 0
FailsWith Grammar text status = (line : ℕ) × (reason : Reason) × (status ≡ BadText line reason) × (fault text ≡ Some (fault_at line reason))
FailsWith (Inputs hex) text status = (status ≡ BadWords 5) × StandsFor text (λ c. FitInputs (hex_bytes hex) c.inputs → ⊥)
FailsWith Acceptance text status = (product : ℕ) × (source : ℕ) × (status ≡ Refused product source) × StandsFor text (λ c. IsClash c product source)
FailsWith (Probes order wires) text status = (place : ℕ) × (status ≡ BadProbe place) × StandsFor text (λ c. IsBadProbe c (suc order) wires place)

-- all checks before one pass, and that one fails with this status
abbrev pub FirstFailure : List Check → List ℕ → Status → Type 0
FirstFailure [] text status = ⊥
FirstFailure (check ∷ checks) text status = FailsWith check text status ⊎ (Passes check text × FirstFailure checks text status)

abbrev pub AllPass : List Check → List ℕ → Type 0
AllPass [] text = Unit {0}
AllPass (check ∷ checks) text = Passes check text × AllPass checks text
