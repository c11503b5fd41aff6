-- How much the probes on a gate demand of its operands.
use Rattle.std.specs.Prelude.{ℕ, ◌≤◌, List, length}
use Rattle.mask_circuit.specs.declared.gates.Wire.{Wire}
use Rattle.mask_circuit.specs.Probing.{size}
use Rattle.mask_circuit.specs.Need.{left_need, right_need, refresh_need}

-- The probes on a product demand no more shares of either operand than there are probes, and so do those on a refresh.
abbrev pub NeedsAreSmall : Type 0
NeedsAreSmall = (N : ℕ) (Q : List Wire) →
    (size N (left_need Q) ≤ length Q) × (size N (right_need Q) ≤ length Q) × (size N (refresh_need Q) ≤ length Q)
