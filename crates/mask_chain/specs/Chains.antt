-- A run of evaluations, and what stays where the tape fails.
use Rattle.std.specs.Prelude.{◌≡◌, ℕ, ◌+◌, ◌≤◌, List, [], ◌∷◌, ◌++◌, length, map, take, drop, sum_by, All}
use Rattle.mask_bits.specs.Lanes.{lane}
use Rattle.mask_tape.specs.Tape.{new_bytes}
use Rattle.mask_trace.specs.Steps.{Registers, Step, bits_of}
use Rattle.mask_trace.specs.Traces.{BitShares}
use Rattle.mask_trace.specs.Drawing.{Stand, RanPart}

-- a run between its evaluations: the words of its key and of its state
pub record Chain : Type 0 where
  pub key : List (List ℕ)
  pub state : List (List ℕ)

-- what is in shares: a bit's shares stand in lane 0
abbrev pub registers : List (List ℕ) → List (List ℕ) → Registers BitShares
registers key state = record { key = map (lane 0) key; state = map (lane 0) state }

abbrev pub have : Chain → Registers BitShares
have run = registers run.key run.state

-- words of N shares each
abbrev pub AreShares : ℕ → List (List ℕ) → Type 0
AreShares N values = All (λ value. length value ≡ N) values

-- The tape failed behind the first of these steps, none or all that come ahead of the own one, and their gates alone were
-- counted. The run has what they leave. It wants just the new bytes that the next one needs, at least one.
pub record Stopped (N : ℕ) (had now : Registers BitShares) (ahead : List Step) (own : Step) (wanted counted counted' : ℕ) (a b : Stand) : Type 0 where
  pub count : ℕ
  pub ran : RanPart N had (ahead ++ own ∷ []) count a b
  pub holds : now ≡ ran.now
  pub few : count ≤ length ahead
  pub counts : counted' ≡ counted + sum_by (λ step. length step.circuit.gates) (take count ahead)
  pub next : List Step
  pub later : List Step
  pub follow : drop count (ahead ++ own ∷ []) ≡ next ++ later
  pub wants : wanted ≡ new_bytes b.kept (bits_of N next)
  pub some : 1 ≤ wanted
