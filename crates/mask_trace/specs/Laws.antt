-- What is proved of every run of steps.
use Rattle.std.specs.Prelude.{◌≡◌, ℕ, ◌+◌, ◌*◌, ◌<◌, ◌≤◌, Bool, List, [], ◌++◌, length, take, drop}
use Rattle.mask_bits.specs.Reading.{low}
use Rattle.mask_tape.specs.Tape.{IsDrawn}
use Rattle.mask_circuit.specs.Probing.{size}
use Rattle.mask_laws.specs.Runs.{run_wires, run_draws, run_need, IsRunSimulated, IsStrongRun}
use Rattle.mask_eval.specs.Watching.{told_more}
use Rattle.mask_trace.specs.Steps.{Registers, Step, IsStrongPlan, bits_of}
use Rattle.mask_trace.specs.Traces.{BitShares, after, trace}
use Rattle.mask_trace.specs.Drawing.{Stand, Drew, Ran, RanPart}
use Rattle.mask_trace.specs.Calls.{calls_of, gate_coins, variables}
use Rattle.mask_trace.specs.Privacy.{trace_wires, IsPrivateTrace}

-- The trace of steps and more steps is that of the steps, and then that of the others from what is in shares by then, with
-- the tape that is left.
pub record TracesSplit : Type 0 where
  pub trace : (N : ℕ) (have : Registers BitShares) (ss ts : List Step) (r : List Bool) →
      trace N have (ss ++ ts) r ≡ trace N have ss r ++ trace N (after N have ss r) ts (drop (bits_of N ss) r)
  pub after : (N : ℕ) (have : Registers BitShares) (ss ts : List Step) (r : List Bool) →
      after N have (ss ++ ts) r ≡ after N (after N have ss r) ts (drop (bits_of N ss) r)
  pub bits : (N : ℕ) (ss ts : List Step) → bits_of N (ss ++ ts) ≡ bits_of N ss + bits_of N ts

-- What the tape has behind the bits of the steps doesn't matter.
pub record TapeIsEnough : Type 0 where
  pub trace : (N : ℕ) (have : Registers BitShares) (ss : List Step) (r more : List Bool) → bits_of N ss ≤ length r →
      trace N have ss (r ++ more) ≡ trace N have ss r
  pub after : (N : ℕ) (have : Registers BitShares) (ss : List Step) (r more : List Bool) → bits_of N ss ≤ length r →
      after N have ss (r ++ more) ≡ after N have ss r

-- A run goes on: what was evaluated in two parts, one behind the other, was evaluated, and either part may have stopped. A
-- run of no step does nothing.
pub record RunsJoin : Type 0 where
  pub none : (N : ℕ) (have : Registers BitShares) (a : Stand) → length a.kept < 8 → Ran N have [] have a a
  pub all : (N : ℕ) (have now after : Registers BitShares) (ss ts : List Step) (a b c : Stand) →
      Ran N have ss now a b → Ran N now ts after b c → Ran N have (ss ++ ts) after a c
  pub part : (N : ℕ) (have now : Registers BitShares) (ss ts : List Step) (count : ℕ) (a b c : Stand) →
      Ran N have ss now a b → RanPart N now ts count b c → RanPart N have (ss ++ ts) (length ss + count) a c
  pub stops : (N : ℕ) (have : Registers BitShares) (ss ts : List Step) (count : ℕ) (a b : Stand) →
      RanPart N have ss count a b → RanPart N have (ss ++ ts) count a b
  pub whole : (N : ℕ) (have now : Registers BitShares) (ss : List Step) (a b : Stand) →
      Ran N have ss now a b → RanPart N have ss (length ss) a b

-- What was drawn in two parts, one behind the other, was drawn. Behind it fewer than eight bits are kept, whatever was
-- kept before.
pub record DrawsJoin : Type 0 where
  pub both : (m n : ℕ) (f g : List ℕ) (a b c : Stand) → Drew m f a b → Drew n g b c → Drew (m + n) (f ++ g) a c
  pub few : (n : ℕ) (f : List ℕ) (a b : Stand) → Drew n f a b → length b.kept < 8

-- What a run told is the beginning of what all its steps tell, however the tape goes on.
abbrev pub PartsAreBeginnings : Type 0
PartsAreBeginnings = (N : ℕ) (have : Registers BitShares) (ss : List Step) (count : ℕ) (a b : Stand) → (part : RanPart N have ss count a b) →
    (more : List Bool) → b.told ≡ told_more a.told (take count (trace N have ss (a.kept ++ low part.ran.fresh ++ more)))

-- What a tape gives where it kept fewer than eight bits is drawn: the bits of all lanes.
abbrev pub DrawnIsDrew : Type 0
DrawnIsDrew = (a b : Stand) (lanes bits : ℕ) (words : List ℕ) → length a.kept < 8 →
    (drawn : IsDrawn a.kept b.kept a.left b.left lanes bits words) → Drew (lanes * bits) drawn.fresh a b

-- A strong plan with a key of n bits is a strong run in the probing model. The variables of the run are the bits of the key
-- and then those of the message, and its wires are those of the plan. So any t of them, t at most N - 1, need at most t
-- shares of each of these bits, and these suffice.
pub record IsRun (N n : ℕ) (ss : List Step) : Type 0 where
  pub strong : IsStrongRun (calls_of n ss)
  pub wires : (key : List BitShares) (r : List Bool) → length key ≡ n → bits_of N ss ≤ length r →
      trace_wires N (record { key = key; state = [] }) ss r ≡ run_wires (calls_of n ss) N (variables N key ss r) (gate_coins N ss r)
  pub tape : (r : List Bool) → bits_of N ss ≤ length r → length (gate_coins N ss r) ≡ run_draws (calls_of n ss) N
  pub few : (P : List ℕ) → length P < N → (v : ℕ) → size N (run_need (calls_of n ss) N P v) ≤ length P
  pub suffice : (P : List ℕ) → length P < N → IsRunSimulated (calls_of n ss) N P (run_need (calls_of n ss) N P)

abbrev pub PlansAreRuns : Type 0
PlansAreRuns = (N n : ℕ) (ss : List Step) → 2 ≤ N → IsStrongPlan n 0 ss → IsRun N n ss

-- Any few wires of a strong plan show nothing of the key and the message.
abbrev pub PlansArePrivate : Type 0
PlansArePrivate = (N n : ℕ) (ss : List Step) → 2 ≤ N → IsStrongPlan n 0 ss → IsPrivateTrace N n ss
