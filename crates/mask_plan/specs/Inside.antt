-- What holds of the run inside a session, and what a piece does to it.
use Rattle.std.specs.Prelude.{◌≡◌, ℕ, ◌+◌, ◌*◌, ◌/◌, ◌%◌, ◌<◌, ◌≤◌, Bool, false, List, [], ◌++◌, length, drop, take, slice_index, slice_index_or, Option, None}
use Rattle.mask_bits.specs.Lanes.{lane}
use Rattle.mask_bits.specs.Reading.{bit}
use Rattle.mask_circuit.specs.Ring.{bits}
use Rattle.mask_circuit.specs.Sharing.{unmasked}
use Rattle.mask_tape.specs.Tape.{new_bytes}
use Rattle.mask_tasks.specs.declared.tasks.Task.{Task}
use Rattle.mask_tasks.specs.Tasks.{longest_message}
use Rattle.mask_trace.specs.Steps.{Registers, Step, bits_of}
use Rattle.mask_trace.specs.Traces.{BitShares}
use Rattle.mask_trace.specs.Values.{HasShares, values_of, value_after}
use Rattle.mask_trace.specs.Drawing.{Stand, Ran, RanPart}
use Rattle.mask_modes.specs.CounterMode.{block_count}
use Rattle.mask_modes.specs.Steps.{Mode}
use Rattle.mask_modes.specs.Outputs.{HasKey}
use Rattle.mask_counter.specs.Batches.{Between, have, mode}
use Rattle.mask_keystream.specs.Streaming as stream
use Rattle.mask_macs.specs.Codes.{Code, ArePieces}
use Rattle.mask_tagging.specs.Tagging as tagging
use Rattle.mask_tagging.specs.Runs.{between}
use Rattle.mask_ciphers.specs.Methods as methods
use Rattle.mask_ciphers.specs.Tasks.{method_of}
use Rattle.mask_plan.specs.declared.runs.TaskRun.{TaskRun}
use Rattle.mask_plan.specs.declared.runs.TaskRun.TheVariants.{Counter, Stream, Tag}
use Rattle.mask_plan.specs.declared.session.Stop.{Stop}
use Rattle.mask_plan.specs.Sessions.{Progress}

-- what a run has in shares, and the words of its latest outputs
abbrev pub held : {N : ℕ} → TaskRun N → Registers BitShares
held (Counter run) = have run
held (Stream run) = run.held
held (Tag run) = (between run).held

abbrev pub outputs : {N : ℕ} → TaskRun N → List (List ℕ)
outputs (Counter run) = run.outputs
outputs (Stream run) = run.outputs
outputs (Tag run) = (between run).outputs

-- as many as a block has bits, or a step of Trivium outputs, or the state of a code
abbrev pub HasOutputs : {N : ℕ} → TaskRun N → Type 0
HasOutputs (Counter run) = length run.outputs ≡ 8 * run.block
HasOutputs (Stream run) = length run.outputs ≡ 352
HasOutputs (Tag run) = length (between run).outputs ≡ (tagging.code_of (between run).scheme).state_bits

-- how a session stands whose parts these are
abbrev pub progress : {N : ℕ} → Task → TaskRun N → ℕ → Option Stop → Bool → ℕ → Progress
progress task run fed closed ended written = record {
  task = task;
  held = held run;
  fed = fed;
  closed = closed;
  ended = ended;
  written = written;
  outputs = outputs run;
}

-- a run in this mode, with these shares of the key, ahead of its first block
pub record BeginsRun (m : Mode) (shares : List BitShares) (run : Between) : Type 0 where
  pub in_mode : mode run ≡ m
  pub key : run.shares ≡ shares
  pub none : run.done ≡ 0

-- a run of Trivium with this IV
pub record BeginsStream (iv : List ℕ) (shares : List BitShares) (run : stream.Between) : Type 0 where
  pub iv_is : run.iv ≡ iv
  pub held_is : run.held ≡ record { key = shares; state = [] }

-- a run of this code
pub record BeginsTag (code : Code) (shares : List BitShares) (run : tagging.Between) : Type 0 where
  pub code_is : tagging.code_of run.scheme ≡ code
  pub held_is : run.held ≡ record { key = shares; state = [] }

-- a run by this method, with these shares of the key, ahead of the message
abbrev pub Begin : {N : ℕ} → methods.Method → List BitShares → TaskRun N → Type 0
Begin (methods.InCounterMode m cipher) shares (Counter run) = BeginsRun m shares run
Begin (methods.AsStream iv) shares (Stream run) = BeginsStream iv shares run
Begin (methods.AsCode code) shares (Tag run) = BeginsTag code shares (between run)
Begin method shares run = ⊥

-- A run by this method, which may be over.
abbrev pub IsBy : (N : ℕ) → methods.Method → TaskRun N → Type 0
IsBy N (methods.InCounterMode m cipher) (Counter run) = mode run ≡ m
IsBy N (methods.AsStream iv) (Stream run) = run.iv ≡ iv
IsBy N (methods.AsCode code) (Tag run) = tagging.code_of (between run).scheme ≡ code
IsBy N method run = ⊥

-- It took so many bytes of a message, whole batches, and goes on: the key is there, in N shares of each bit.
pub record AreEncrypted (N : ℕ) (m : Mode) (fed : ℕ) (run : Between) : Type 0 where
  pub in_mode : mode run ≡ m
  pub whole : fed % (64 * m.block) ≡ 0
  pub done_is : run.done ≡ block_count m.block fed
  pub has_key : HasKey N m (have run)

-- the same of Trivium: behind some bytes the state is there
pub record AreStreamed (N : ℕ) (iv : List ℕ) (fed : ℕ) (run : stream.Between) : Type 0 where
  pub iv_is : run.iv ≡ iv
  pub whole : fed % 8 ≡ 0
  pub has_key : HasShares N 80 (length run.held.state) run.held
  pub state : 0 < fed → length run.held.state ≡ 352

-- the same of a code, and whole pieces
pub record AreTagged (N : ℕ) (code : Code) (fed : ℕ) (run : tagging.Between) : Type 0 where
  pub code_is : tagging.code_of run.scheme ≡ code
  pub whole : ArePieces code fed
  pub has_key : HasShares N (8 * code.key_bytes) (length run.held.state) run.held
  pub state : 0 < fed → length run.held.state ≡ code.state_bits

abbrev pub GoesOn : (N : ℕ) → methods.Method → ℕ → TaskRun N → Type 0
GoesOn N (methods.InCounterMode m cipher) fed (Counter run) = AreEncrypted N m fed run
GoesOn N (methods.AsStream iv) fed (Stream run) = AreStreamed N iv fed run
GoesOn N (methods.AsCode code) fed (Tag run) = AreTagged N code fed (between run)
GoesOn N method fed run = ⊥

-- Behind so many bytes these were taken, the last ones or not: all their steps were evaluated, and nothing else. What is held
-- stands for what they compute, and what is handed out for what is written of them; `place` says where a block has a bit of a
-- byte.
pub record Took (N : ℕ) (method : methods.Method) (place : ℕ → ℕ → ℕ) (fed : ℕ) (piece : List ℕ) (last : Bool) (run run' : TaskRun N) (a b : Stand) : Type 0 where
  pub ran : Ran N (held run) (methods.next_steps method fed piece last) (held run') a b
  pub values : values_of (held run') ≡ value_after (values_of (held run)) (methods.next_steps method fed piece last)
  pub stand : (k p : ℕ) → k < length (methods.next_output method (values_of (held run)) fed piece last) → p < 8 →
      unmasked bits (lane (k / methods.block method) (slice_index_or (outputs run') (place (k % methods.block method) p) []))
      ≡ bit p (slice_index (methods.next_output method (values_of (held run)) fed piece last) k)

-- The tape failed behind the first of their steps, of those that come ahead of their own: it wants just the new bytes that the
-- next ones need, at least one.
pub record Stopped (N : ℕ) (method : methods.Method) (fed : ℕ) (piece : List ℕ) (last : Bool) (run : TaskRun N) (wanted counted counted' : ℕ) (a b : Stand) : Type 0 where
  pub count : ℕ
  pub ran : RanPart N (held run) (methods.next_steps method fed piece last) count a b
  pub few : count ≤ length (methods.ahead method fed last)
  pub next : List Step
  pub later : List Step
  pub follow : drop count (methods.next_steps method fed piece last) ≡ next ++ later
  pub wants : wanted ≡ new_bytes b.kept (bits_of N next)
  pub some : 1 ≤ wanted
  pub counts : counted' ≡ counted + methods.gates_of (take count (methods.ahead method fed last))

-- The run is one of the task, of which no more than the longest message was taken. A session that is neither closed nor at its
-- end goes on.
pub record IsInOrder (N : ℕ) (task : Task) (fed : ℕ) (closed : Option Stop) (ended : Bool) (run : TaskRun N) : Type 0 where
  pub some : 2 ≤ N
  pub few : N ≤ 8
  pub within : fed ≤ longest_message task
  pub by : IsBy N (method_of task) run
  pub goes_on : closed ≡ None → ended ≡ false → GoesOn N (method_of task) fed run
