-- Which outputs stand by themselves, found with a flag for each value.
use Rattle.std.specs.Prelude.{◌≡◌, ℕ, ◌<◌, ◌⊎◌, Bool, true, false, List, length, slice_index_or, slice_set, Some, None}
use Rattle.std.specs.declared.option.Option.{Option}
use Rattle.mask_circuit.specs.declared.gates.Gate.{Gate}
use Rattle.mask_circuit.specs.declared.gates.Gate.TheVariants.{Zero, One, Xor, Not, And, Ref}
use Rattle.mask_circuit.specs.Netlist.{Netlist, value_count}
use Rattle.mask_circuit.specs.Acceptance.{gate_at, Uses, output_at, IsFence, IsFenced, IsGap}
use Rattle.mask_check.specs.declared.strong.StrengthenError.{StrengthenError}
use Rattle.mask_check.specs.declared.strong.StrengthenError.TheVariants.{NotFenced, NoMemory}

-- the circuit has its lowest gap there
abbrev pub IsWeakness : Netlist → StrengthenError → Type 0
IsWeakness c (NotFenced k) = IsGap c k
IsWeakness c NoMemory = Unit {0}

-- the lowest gap, or none
abbrev pub IsGapOrNone : Netlist → Option ℕ → Type 0
IsGapOrNone c None = IsFenced c
IsGapOrNone c (Some k) = IsGap c k

-- value u has a flag
abbrev pub IsFlagged : List Bool → ℕ → Type 0
IsFlagged flags u = slice_index_or flags u false ≡ true

abbrev pub with_flag : List Bool → ℕ → List Bool
with_flag flags u = slice_set flags u true

-- flags for the operands of the gate too
abbrev pub with_operands : Option Gate → List Bool → List Bool
with_operands None flags = flags
with_operands (Some Zero) flags = flags
with_operands (Some One) flags = flags
with_operands (Some (Xor u v)) flags = with_flag (with_flag flags u) v
with_operands (Some (Not u)) flags = with_flag flags u
with_operands (Some (And u v)) flags = with_flag (with_flag flags u) v
with_operands (Some (Ref u)) flags = with_flag flags u

-- just the operands of the gates of values below n have flags
pub record FlagsOperands (c : Netlist) (n : ℕ) (flags : List Bool) : Type 0 where
  pub size : length flags ≡ value_count c
  pub only : (u : ℕ) → IsFlagged flags u → (v : ℕ) × (v < n) × Uses u (gate_at c v)
  pub all : (u v : ℕ) → v < n → Uses u (gate_at c v) → IsFlagged flags u

-- just the operands of gates and the outputs before place k have flags, and those outputs are fences
pub record FencesBefore (c : Netlist) (k : ℕ) (flags : List Bool) : Type 0 where
  pub size : length flags ≡ value_count c
  pub only : (u : ℕ) → IsFlagged flags u → ((v : ℕ) × Uses u (gate_at c v)) ⊎ ((i : ℕ) × (i < k) × (output_at c i ≡ u))
  pub operands : (u v : ℕ) → Uses u (gate_at c v) → IsFlagged flags u
  pub outputs : (i : ℕ) → i < k → IsFlagged flags (output_at c i)
  pub fences : (i : ℕ) → i < k → IsFence c i

-- the gate is a refresh
abbrev pub IsRefresh : Option Gate → Type 0
IsRefresh None = ⊥
IsRefresh (Some Zero) = ⊥
IsRefresh (Some One) = ⊥
IsRefresh (Some (Xor u v)) = ⊥
IsRefresh (Some (Not u)) = ⊥
IsRefresh (Some (And u v)) = ⊥
IsRefresh (Some (Ref u)) = Unit {0}
