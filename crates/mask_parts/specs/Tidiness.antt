-- What each part keeps, so that a circuit of parts is tidy, and by that accepted.
use Rattle.std.specs.Prelude.{◌≡◌, ℕ, ◌<◌, List, Some, All}
use Rattle.mask_circuit.specs.declared.gates.Gate.TheVariants.{And}
use Rattle.mask_circuit.specs.Netlist.{Netlist, value_count}
use Rattle.mask_circuit.specs.Acceptance.{gate_at, IsTidy}

-- value v isn't the second operand of a product, so a further gate may take it
abbrev pub IsFree : Netlist → ℕ → Type 0
IsFree c v = (p u : ℕ) → gate_at c p ≡ Some (And u v) → ⊥

-- the draft after is tidy, the values handed back are free in it, and so is each value that was free before
pub record KeepsTidy (before after : Netlist) (results : List ℕ) : Type 0 where
  pub tidy : IsTidy after
  pub results_free : All (λ v. IsFree after v) results
  pub still_free : (v : ℕ) → v < value_count before → IsFree before v → IsFree after v
