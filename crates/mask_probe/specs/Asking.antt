-- What is asked of probes, why they are refused, and sets of shares as numbers.
use Rattle.std.specs.Prelude.{◌≡◌, ℕ, ◌<◌, ◌≤◌, Bool, false, List, length, take, slice_index}
use Rattle.mask_bits.specs.Reading.{bit}
use Rattle.mask_circuit.specs.Netlist.{Netlist}
use Rattle.mask_circuit.specs.Expansion.{wire_count}
use Rattle.mask_laws.specs.Circuits.{AreWireNumbers}
use Rattle.mask_probe.specs.declared.errors.ProbeError.{ProbeError}
use Rattle.mask_probe.specs.declared.errors.ProbeError.TheVariants.{TooManyProbes, NoSuchWire, NoMemory}

-- fewer probes than shares, each a wire
pub record AreProbes (c : Netlist) (N : ℕ) (P : List ℕ) : Type 0 where
  pub few : length P < N
  pub wires : AreWireNumbers c N P

-- why probes are refused: N or more of them; or else the first that is no wire
abbrev pub IsProbeRefusal : Netlist → ℕ → List ℕ → ProbeError → Type 0
IsProbeRefusal c N P TooManyProbes = N ≤ length P
IsProbeRefusal c N P (NoSuchWire place) = (length P < N) × (place < length P) × (wire_count c N ≤ slice_index P place) × AreWireNumbers c N (take place P)
IsProbeRefusal c N P NoMemory = Unit {0}

-- the set of shares of each value as a number whose bit i is share i
abbrev pub has_share : List ℕ → ℕ → ℕ → Bool
has_share sets v i = bit i (slice_index sets v)

-- a set has shares below N alone
abbrev pub IsWithin : ℕ → ℕ → Type 0
IsWithin N set = (i : ℕ) → N ≤ i → bit i set ≡ false
