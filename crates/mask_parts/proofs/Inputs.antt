-- Drafts of inputs alone, and with the two constants behind them: which values gates may take, and the bits of inputs.
use Rattle.std.proofs.Common.{◌≡◌, ℕ, zero, suc, ◌+◌, ◌<◌, ◌≤◌, Bool, false, Some, List, [], ◌∷◌, length, map, take, drop, All, refl, ap₂, subst, arith}
use Rattle.std.specs.List.{range_with_len}
use Rattle.std.proofs.lemmas.List.{drop_more}
use Rattle.std.proofs.lemmas.List.Elements.{All-nil, All-cons}
use Rattle.mask_circuit.specs.declared.gates.Gate.{Gate}
use Rattle.mask_circuit.specs.declared.gates.Gate.TheVariants.{Zero, One}
use Rattle.mask_circuit.specs.Netlist.{Netlist, value_count, only_inputs}
use Rattle.mask_circuit.specs.Value.{value_at, plain_values}
use Rattle.mask_circuit.specs.Acceptance.{gate_at, IsTidy}
use Rattle.mask_circuit.proofs.GateAt.{gate_at_within}
use Rattle.mask_parts.specs.Drafts.{with_gates}
use Rattle.mask_parts.specs.Tidiness.{IsFree, KeepsTidy}
use Rattle.mask_parts.proofs.Layering.{TakesFree, KeepsTidy-layer}
use Rattle.mask_parts.proofs.Passing.{AreOf, IsSound, IsReady}
use Rattle.mask_parts.proofs.Ranges.{All-range}
use Rattle.mask_parts.proofs.Solving.{values_from-keeps}

-- the bits of inputs in a row
pub bits-inputs : (c : Netlist) (x : List Bool) (a k : ℕ) → a + k ≤ length x → map (value_at (plain_values c x)) (range_with_len a k) ≡ take k (drop a x)
bits-inputs c x a zero within = refl
bits-inputs c x a (suc k) within =
    rw (drop_more x a false (omega arith))
    (ap₂ ◌∷◌ (values_from-keeps c.gates x a (omega arith)) (bits-inputs c x (a + 1) k (omega arith)))

module _ (n : ℕ) where
  abbrev inputs : Netlist
  inputs = only_inputs n

  abbrev constants : List Gate
  constants = Zero ∷ (One ∷ [])

  -- INPUTS ALONE

  no_gate : (p : ℕ) (g : Gate) → gate_at inputs p ≡ Some g → ⊥
  no_gate p g is = let within = gate_at_within inputs p g is in omega arith

  pub IsTidy-inputs : IsTidy inputs
  IsTidy-inputs = record {
    refreshed = λ p u v is. absurd (no_gate p _ is);
    apart = λ p u v is. absurd (no_gate p _ is);
    alone = λ p u v q is. absurd (no_gate p _ is);
  }

  pub IsSound-inputs : (T : Type 0) → IsSound T inputs
  IsSound-inputs T = record { formed = tt; tidy = λ t. IsTidy-inputs }

  pub IsReady-alone : (T : Type 0) (u : ℕ) → u < n → IsReady T inputs u
  IsReady-alone T u low = record { below = omega arith; free = λ t p v is. no_gate p _ is }

  -- some of them in a row
  pub All-inputs : (T : Type 0) (a k : ℕ) → a + k ≤ n → All (IsReady T inputs) (range_with_len a k)
  All-inputs T a k within = All-range (IsReady T inputs) a k (λ u low high. IsReady-alone T u (omega arith))

  pub AreOf-inputs : (a k : ℕ) → a + k ≤ n → AreOf inputs (range_with_len a k)
  AreOf-inputs a k within = All-range (λ u. u < value_count inputs) a k (λ u low high. omega arith)

  -- BEHIND THEM THE BITS 0 AND 1

  keeps : KeepsTidy inputs (with_gates inputs constants) (range_with_len (n + 0) 2)
  keeps =
      KeepsTidy-layer inputs constants tt IsTidy-inputs
      (All-cons (TakesFree inputs) Zero (One ∷ []) (record { other = refl; taken = λ u uses. absurd uses })
      (All-cons (TakesFree inputs) One [] (record { other = refl; taken = λ u uses. absurd uses }) (All-nil (TakesFree inputs))))

  pub IsSound-constants : (T : Type 0) → IsSound T (with_gates inputs constants)
  IsSound-constants T = record { formed = (unfold with_gates in (tt, (tt, tt))); tidy = λ t. keeps.tidy }

  count : value_count (with_gates inputs constants) ≡ n + 2
  unfolding with_gates
  count = refl

  pub IsReady-input : (T : Type 0) (u : ℕ) → u < n → IsReady T (with_gates inputs constants) u
  IsReady-input T u low = record { below = (let e = count in omega arith); free = λ t. keeps.still_free u (omega arith) (λ p v is. no_gate p _ is) }

  pub IsReady-nought : (T : Type 0) → IsReady T (with_gates inputs constants) n
  IsReady-nought T = record {
    below = (let e = count in omega arith);
    free = λ t. (let e : n + 0 ≡ n = omega arith in subst (IsFree (with_gates inputs constants)) e (keeps.results_free 0 0 (omega arith)));
  }

  pub IsReady-one : (T : Type 0) → IsReady T (with_gates inputs constants) (n + 1)
  IsReady-one T = record {
    below = (let e = count in omega arith);
    free = λ t. (let e : n + 0 + 1 ≡ n + 1 = omega arith in subst (IsFree (with_gates inputs constants)) e (keeps.results_free 1 0 (omega arith)));
  }
