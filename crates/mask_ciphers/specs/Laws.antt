-- What holds of every task.
use Rattle.std.specs.Prelude.{◌≡◌, ℕ, suc, ◌+◌, ◌*◌, ◌≤◌, Bool, true, false, List, [], ◌++◌, length, take}
use Rattle.mask_bits.specs.Reading.{AreBytes}
use Rattle.mask_tasks.specs.declared.tasks.Task.{Task}
use Rattle.mask_tasks.specs.Tasks.{IsTask, key_bytes}
use Rattle.mask_keys.specs.Lines.{AreKeyLines, line_length, joined}
use Rattle.mask_trace.specs.Steps.{Registers, Step, IsStrongPlan, bits_of}
use Rattle.mask_trace.specs.Values.{HasShares, values_of, value_after}
use Rattle.mask_trace.specs.Laws.{IsRun}
use Rattle.mask_trace.specs.Privacy.{IsPrivateTrace}
use Rattle.mask_modes.specs.Steps.{Enciphers}
use Rattle.mask_macs.specs.Codes.{Code}
use Rattle.mask_macs.specs.Laws as macs
use Rattle.mask_ciphers.specs.Methods.{Method, InCounterMode, AsStream, AsCode, AreBatches, IsCipher, MayEnd, ahead, batch, fed_gates, fed_steps, gates_of, next_gates, next_length, next_output, next_steps, run_gates}
use Rattle.mask_ciphers.specs.Tasks.{fed_output, held_at_first, method_of, output, plan, with_lines}
use Rattle.mask_ciphers.specs.Totals.{total}

-- A code takes a message piece by piece, in strong steps that show nothing, into a tag of bytes.
pub record MakesTags (code : Code) : Type 0 where
  pub split : macs.PlansSplit code
  pub steps : macs.PiecesAreSteps code
  pub strong : macs.PlansAreStrong code
  pub draws : macs.RunBits code
  pub fits : macs.OutputFits code
  pub goes_on : macs.OutputGoesOn code
  pub registers : macs.RegistersGoOn code
  pub bits : macs.OutputsAreBits code

-- The circuits of a method compute what it takes them for; those of Trivium do so with an IV of ten bytes.
abbrev pub IsSound : Method → Type 0
IsSound (InCounterMode m cipher) = Enciphers cipher m
IsSound (AsStream iv) = length iv ≡ 10
IsSound (AsCode code) = MakesTags code

abbrev pub TasksEncipher : Type 0
TasksEncipher = (task : Task) → IsTask task → IsSound (method_of task)

-- A ciphertext is as long as its message, and that of a beginning of the message is a beginning of it.
pub record OutputsAreCiphertexts : Type 0 where
  pub as_long : (task : Task) → IsCipher (method_of task) → (key message : List ℕ) → length key ≡ key_bytes task →
      length (output task key message) ≡ length message
  pub front : (task : Task) → IsCipher (method_of task) → (key message : List ℕ) (n : ℕ) → length key ≡ key_bytes task →
      output task key (take n message) ≡ take n (output task key message)

-- what a run holds behind whole batches, as bits
abbrev pub held_behind : Task → List ℕ → List ℕ → Registers Bool
held_behind task key front = value_after (held_at_first task key) (fed_steps (method_of task) front)

-- A message goes on behind whole batches: its steps and its output are theirs and then those of the next piece, which is
-- another batch with more behind it, or the last piece.
pub record MessagesGoOn : Type 0 where
  pub no_steps : (task : Task) → fed_steps (method_of task) [] ≡ []
  pub no_output : (task : Task) (key : List ℕ) → fed_output task key [] ≡ []
  pub steps_fed : (task : Task) (front piece : List ℕ) → AreBatches (method_of task) (length front) → length piece ≡ batch (method_of task) →
      fed_steps (method_of task) (front ++ piece) ≡ fed_steps (method_of task) front ++ next_steps (method_of task) (length front) piece false
  pub steps_last : (task : Task) (front piece : List ℕ) → AreBatches (method_of task) (length front) → MayEnd (method_of task) (length front) piece →
      plan task (front ++ piece) ≡ fed_steps (method_of task) front ++ next_steps (method_of task) (length front) piece true
  pub output_fed : (task : Task) → IsTask task → (key front piece : List ℕ) → length key ≡ key_bytes task → AreBatches (method_of task) (length front) →
      length piece ≡ batch (method_of task) →
      fed_output task key (front ++ piece) ≡ fed_output task key front ++ next_output (method_of task) (held_behind task key front) (length front) piece false
  pub output_last : (task : Task) → IsTask task → (key front piece : List ℕ) → length key ≡ key_bytes task → AreBatches (method_of task) (length front) →
      MayEnd (method_of task) (length front) piece →
      output task key (front ++ piece) ≡ fed_output task key front ++ next_output (method_of task) (held_behind task key front) (length front) piece true

-- A cipher takes and writes whole batches alike, whether more of the message comes or not, and it may end behind any bytes.
-- The steps of some bytes begin with those that come ahead of them; a code's do so of no bytes too.
pub record CiphersGoOn : Type 0 where
  pub ends : (task : Task) → IsCipher (method_of task) → (n : ℕ) (piece : List ℕ) → MayEnd (method_of task) n piece
  pub begins : (task : Task) (n : ℕ) (piece : List ℕ) (last : Bool) → (IsCipher (method_of task) → 1 ≤ length piece) →
      (later : List Step) × (next_steps (method_of task) n piece last ≡ ahead (method_of task) n last ++ later)
  pub ahead : (task : Task) → IsCipher (method_of task) → (n : ℕ) → ahead (method_of task) n false ≡ ahead (method_of task) n true
  pub steps : (task : Task) → IsCipher (method_of task) → (front : List ℕ) → fed_steps (method_of task) front ≡ plan task front
  pub output : (task : Task) → IsCipher (method_of task) → (key front : List ℕ) → fed_output task key front ≡ output task key front

-- What is written of a piece are bytes: as many as the piece has, or a tag behind the last one alone.
pub record PiecesAreWritten : Type 0 where
  pub as_long : (task : Task) (key front piece : List ℕ) (last : Bool) → length key ≡ key_bytes task →
      length (next_output (method_of task) (held_behind task key front) (length front) piece last) ≡ next_length (method_of task) piece last
  pub bytes : (task : Task) (key front piece : List ℕ) (last : Bool) → length key ≡ key_bytes task → AreBytes piece →
      AreBytes (next_output (method_of task) (held_behind task key front) (length front) piece last)

-- The gates of more bytes are those of the whole batches before them and those of the piece, no fewer than those of what comes
-- ahead of it. A cipher evaluates no fewer for more bytes.
pub record GatesGoOn : Type 0 where
  pub fed : (task : Task) (n : ℕ) (piece : List ℕ) → AreBatches (method_of task) n → length piece ≡ batch (method_of task) →
      fed_gates (method_of task) (n + length piece) ≡ fed_gates (method_of task) n + next_gates (method_of task) n piece false
  pub last : (task : Task) (n : ℕ) (piece : List ℕ) → AreBatches (method_of task) n → length piece ≤ batch (method_of task) → MayEnd (method_of task) n piece →
      run_gates (method_of task) (n + length piece) ≡ fed_gates (method_of task) n + next_gates (method_of task) n piece true
  pub fewer : (task : Task) → IsCipher (method_of task) → (n : ℕ) → fed_gates (method_of task) n ≤ run_gates (method_of task) n
  pub grow : (task : Task) → IsCipher (method_of task) → (n k : ℕ) → n ≤ k → run_gates (method_of task) n ≤ run_gates (method_of task) k
  pub ahead : (task : Task) (n count : ℕ) (piece : List ℕ) (last : Bool) → (IsCipher (method_of task) → 1 ≤ length piece) →
      count ≤ length (ahead (method_of task) n last) →
      gates_of (take count (ahead (method_of task) n last)) ≤ next_gates (method_of task) n piece last

-- A run draws just the stated bits.
abbrev pub RunsDrawTotals : Type 0
RunsDrawTotals = (task : Task) (d : ℕ) (message : List ℕ) → bits_of (suc d) (plan task message) ≡ total task d (length message)

-- Key lines are shares of the bits of the key that they join to.
pub record LinesShareKeys : Type 0 where
  pub has_key : (task : Task) (lines : List (List ℕ)) → HasShares (length lines) (8 * key_bytes task) 0 (with_lines task lines)
  pub joins : (task : Task) (lines : List (List ℕ)) → AreKeyLines lines → line_length lines ≡ key_bytes task →
      values_of (with_lines task lines) ≡ held_at_first task (joined lines)

-- A run that breaks off behind any of its steps is a strong run in the probing model, and private: any d wires of all its
-- evaluations need at most d shares of each bit of key and message, and show nothing of both.
pub record IsPrivateRun (N : ℕ) (task : Task) (message : List ℕ) (count : ℕ) : Type 0 where
  pub run : IsRun N (8 * key_bytes task) (take count (plan task message))
  pub private : IsPrivateTrace N (8 * key_bytes task) (take count (plan task message))

abbrev pub RunsArePrivate : Type 0
RunsArePrivate = (N : ℕ) (task : Task) → IsTask task → (message : List ℕ) (count : ℕ) → 2 ≤ N → IsPrivateRun N task message count

-- The steps of every task are a strong plan.
abbrev pub PlansAreStrong : Type 0
PlansAreStrong = (task : Task) → IsTask task → (message : List ℕ) → IsStrongPlan (8 * key_bytes task) 0 (plan task message)
