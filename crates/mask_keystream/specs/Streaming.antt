-- A run of Trivium between its pieces.
use Rattle.std.specs.Prelude.{◌≡◌, ℕ, ◌==◌, cond, List, length}
use Rattle.mask_circuit.specs.Netlist.{Netlist}
use Rattle.mask_trace.specs.Steps.{Registers}
use Rattle.mask_trace.specs.Traces.{BitShares}
use Rattle.mask_trivium.specs.NamedTrivium.{named_start, named_step}
use Rattle.mask_chain.specs.Chains.{Chain}

-- the IV, what the run has in shares, and the words of the latest outputs
pub record Between : Type 0 where
  pub iv : List ℕ
  pub held : Registers BitShares
  pub outputs : List (List ℕ)

-- what is handed out: what a piece left, or these words where no piece was taken
abbrev pub shown : List (List ℕ) → List (List ℕ) → List (List ℕ)
shown blank state = cond (length state == 352) state blank

-- The circuits are those of Trivium, and the key has 80 bits.
pub record IsInForm (start step : Netlist) (run : Chain) (blank : List (List ℕ)) (iv : List ℕ) : Type 0 where
  pub is_start : start ≡ named_start
  pub is_step : step ≡ named_step
  pub key : length run.key ≡ 80
  pub blanks : length blank ≡ 352
  pub ten : length iv ≡ 10
