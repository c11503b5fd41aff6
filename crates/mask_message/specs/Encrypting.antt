-- What `enc` and `mac` do with key lines and a message, of which they took these bytes; N is the number of lines, so d is N - 1.
use Rattle.std.specs.Prelude.{◌≡◌, ◌⊎◌, ℕ, pred, ◌+◌, ◌-◌, ◌*◌, ◌<◌, ◌≤◌, Bool, true, false, cond, List, [], ◌++◌, length, take, All}
use Rattle.std.specs.declared.option.Option.{Option}
use Rattle.std.specs.Io.KnownBytes.{Appends, Consumes, IsAtEnd}
use Rattle.mask_bits.specs.Reading.{bytes_for}
use Rattle.mask_io.specs.Outside.{AppendsProperPrefix}
use Rattle.mask_tasks.specs.declared.tasks.Task.{Task}
use Rattle.mask_tasks.specs.Tasks.{key_bytes, longest_message}
use Rattle.mask_keys.specs.Lines.{joined}
use Rattle.mask_eval.specs.Watching.{Told, told_more}
use Rattle.mask_trace.specs.Steps.{Step}
use Rattle.mask_trace.specs.Drawing.{Stand, RanPart}
use Rattle.mask_trace.specs.Values.{IsStrongEvaluation}
use Rattle.mask_ciphers.specs.Methods.{Method, InCounterMode, AsStream, AsCode, AreBatches, ahead, fed_steps}
use Rattle.mask_ciphers.specs.Tasks.{fed_output, method_of, output, plan, with_lines}
use Rattle.mask_ciphers.specs.Totals.{total}
use Rattle.mask_ciphers.specs.Laws.{IsPrivateRun}
use Rattle.mask_plan.specs.Sessions.{batch_length}
use Rattle.mask_keys.specs.declared.files.KeyLength.TheVariants.{Exactly}
use Rattle.mask_secrets.specs.KeyEnds.{KeyEnds}
use Rattle.mask_status.specs.declared.status.Status.{Status}
use Rattle.mask_status.specs.declared.status.Status.TheVariants.{Done, TooLong, ReadFault, TapeFault, WriteFault, NoMemory}
use Rattle.mask_message.specs.Outside.{Outside}
use Rattle.mask_message.specs.Counting.{most_run_steps}

-- tape and watch before the run, which keeps no bit of an earlier one, and after it, whatever it keeps
abbrev pub at_first : Outside → Stand
at_first o = record { kept = []; left = o.tape_before; told = o.told_before }

abbrev pub at_last : List Bool → Outside → Stand
at_last kept o = record { kept = kept; left = o.tape_after; told = o.told_after }

-- The first `count` steps of the run on these bytes were evaluated: the tape gave just their bits, rounded up to bytes, and the
-- watch was told just these evaluations, each of a strong circuit. Any d of all their wires show nothing of key and message.
pub record RanSteps (task : Task) (N : ℕ) (lines : List (List ℕ)) (bytes : List ℕ) (count : ℕ) (o : Outside) : Type 0 where
  pub kept : List Bool
  pub part : RanPart N (with_lines task lines) (plan task bytes) count (at_first o) (at_last kept o)
  pub private : IsPrivateRun N task bytes count

-- all of them
abbrev pub RanAll : Task → ℕ → List (List ℕ) → List ℕ → Outside → Type 0
RanAll task N lines bytes o = RanSteps task N lines bytes (length (plan task bytes)) o

-- The bytes are the whole message. Its output, a ciphertext or a tag, was written, and the tape gave just the stated number of bits.
pub record Encrypts (task : Task) (N : ℕ) (lines : List (List ℕ)) (bytes : List ℕ) (o : Outside) : Type 0 where
  pub at_end : IsAtEnd o.left_after
  pub within : length bytes ≤ longest_message task
  pub written : Appends o.out_before o.out_after (output task (joined lines) bytes)
  pub ran : RanAll task N lines bytes o
  pub drawn : length ran.part.ran.fresh ≡ bytes_for (total task (pred N) (length bytes))

-- Writing failed: all bytes, which are whole batches or the whole message, were taken, and a part of their output was written,
-- not all.
pub record CutsOff (task : Task) (N : ℕ) (lines : List (List ℕ)) (bytes : List ℕ) (o : Outside) : Type 0 where
  pub whole : AreBatches (method_of task) (length bytes) ⊎ IsAtEnd o.left_after
  pub within : length bytes ≤ longest_message task
  pub written : AppendsProperPrefix o.out_before o.out_after (output task (joined lines) bytes)
  pub ran : RanAll task N lines bytes o

-- The first of the bytes, whole batches, were taken: what is written of them was written, and their steps, the first of the run,
-- were evaluated, and nothing else was drawn or told.
pub record WroteBatches (task : Task) (N : ℕ) (lines : List (List ℕ)) (bytes front : List ℕ) (o : Outside) : Type 0 where
  pub whole : AreBatches (method_of task) (length front)
  pub written : Appends o.out_before o.out_after (fed_output task (joined lines) front)
  pub ran : RanSteps task N lines bytes (length (fed_steps (method_of task) front)) o

-- the run broke off behind whole batches; of what came behind them, which is as said, nothing was taken
abbrev pub BreaksOff : Task → ℕ → List (List ℕ) → List ℕ → Outside → (ℕ → Type 0) → Type 0
BreaksOff task N lines bytes o Rest = (front : List ℕ) × (more : List ℕ) × (bytes ≡ front ++ more) × Rest (length more)
    × WroteBatches task N lines bytes front o

-- what comes ahead of the next piece's own steps, as a refresh of the key that is due, or nothing
abbrev pub due_behind : Task → List ℕ → List Step
due_behind task front = ahead (method_of task) (length front) true

-- The tape failed for the bytes behind whole batches, some but no more than a batch. What is written of the batches was written, and
-- all their steps were evaluated, and then perhaps those that come ahead of the next ones, and nothing else. What the tape gave and
-- what it wants are no more than the whole run needs.
pub record FailsToDraw (task : Task) (N : ℕ) (lines : List (List ℕ)) (bytes : List ℕ) (o : Outside) : Type 0 where
  pub front : List ℕ
  pub more : List ℕ
  pub came : bytes ≡ front ++ more
  pub whole : AreBatches (method_of task) (length front)
  pub some_came : 1 ≤ length more
  pub few_came : length more ≤ batch_length task
  pub written : Appends o.out_before o.out_after (fed_output task (joined lines) front)
  pub count : ℕ
  pub ran : RanSteps task N lines bytes count o
  pub holds : length (fed_steps (method_of task) front) ≤ count
  pub few : count ≤ length (fed_steps (method_of task) front) + length (due_behind task front)
  pub wanted : 1 ≤ o.wanted
  pub within : length ran.part.ran.fresh + o.wanted ≤ bytes_for (total task (pred N) (length bytes))

-- what each status says where a ciphertext is written
abbrev pub StreamsOut : Task → ℕ → List (List ℕ) → List ℕ → Outside → Status → Type 0
StreamsOut task N lines bytes o Done = Encrypts task N lines bytes o
StreamsOut task N lines bytes o WriteFault = CutsOff task N lines bytes o
StreamsOut task N lines bytes o (TooLong limit) = (limit ≡ longest_message task) × (limit < length bytes) × (length bytes ≤ limit + batch_length task)
    × WroteBatches task N lines bytes (take limit bytes) o
StreamsOut task N lines bytes o ReadFault = BreaksOff task N lines bytes o (λ n. n < batch_length task)
StreamsOut task N lines bytes o NoMemory = BreaksOff task N lines bytes o (λ n. n ≤ batch_length task)
StreamsOut task N lines bytes o TapeFault = FailsToDraw task N lines bytes o
StreamsOut task N lines bytes o status = ⊥

-- TAGS
--
-- A piece is taken only where one more byte is known, or none comes: so up to two pieces may be held back.

-- Writing failed: the bytes are the whole message, and a part of its tag was written, not all.
pub record CutsTag (task : Task) (N : ℕ) (lines : List (List ℕ)) (bytes : List ℕ) (o : Outside) : Type 0 where
  pub at_end : IsAtEnd o.left_after
  pub within : length bytes ≤ longest_message task
  pub written : AppendsProperPrefix o.out_before o.out_after (output task (joined lines) bytes)
  pub ran : RanAll task N lines bytes o

-- The first of the bytes, whole pieces, were taken: their steps, the first of the run, were evaluated, and nothing else was drawn or
-- told. Nothing was written.
pub record TookPieces (task : Task) (N : ℕ) (lines : List (List ℕ)) (bytes front : List ℕ) (o : Outside) : Type 0 where
  pub whole : AreBatches (method_of task) (length front)
  pub unwritten : Appends o.out_before o.out_after []
  pub ran : RanSteps task N lines bytes (length (fed_steps (method_of task) front)) o

-- the run broke off behind whole pieces; what came behind them, which is as said, was held back
abbrev pub HoldsBack : Task → ℕ → List (List ℕ) → List ℕ → Outside → (ℕ → ℕ → Type 0) → Type 0
HoldsBack task N lines bytes o Rest = (front : List ℕ) × (more : List ℕ) × (bytes ≡ front ++ more) × Rest (length front) (length more)
    × TookPieces task N lines bytes front o

-- The tape failed for the piece behind whole ones, the last or not. Nothing was written. All steps of the pieces were evaluated, and
-- then perhaps those that come ahead of the next one, and nothing else. What the tape gave and what it wants are no more than the
-- whole run needs.
pub record FailsToTag (task : Task) (N : ℕ) (lines : List (List ℕ)) (bytes : List ℕ) (o : Outside) : Type 0 where
  pub front : List ℕ
  pub more : List ℕ
  pub last : Bool
  pub came : bytes ≡ front ++ more
  pub whole : AreBatches (method_of task) (length front)
  pub few_came : length more ≤ cond last 1 2 * batch_length task
  pub unwritten : Appends o.out_before o.out_after []
  pub count : ℕ
  pub ran : RanSteps task N lines bytes count o
  pub holds : length (fed_steps (method_of task) front) ≤ count
  pub few : count ≤ length (fed_steps (method_of task) front) + length (ahead (method_of task) (length front) last)
  pub wanted : 1 ≤ o.wanted
  pub within : length ran.part.ran.fresh + o.wanted ≤ bytes_for (total task (pred N) (length bytes))

-- What each status says where a tag is made. Where reading failed, a whole piece was held back if any was taken; where the message
-- is too long, its last piece within the limit was.
abbrev pub Tags : Task → ℕ → List (List ℕ) → List ℕ → Outside → Status → Type 0
Tags task N lines bytes o Done = Encrypts task N lines bytes o
Tags task N lines bytes o WriteFault = CutsTag task N lines bytes o
Tags task N lines bytes o (TooLong limit) = (limit ≡ longest_message task) × (limit < length bytes) × (length bytes ≤ limit + batch_length task)
    × TookPieces task N lines bytes (take (limit - batch_length task) bytes) o
Tags task N lines bytes o ReadFault = HoldsBack task N lines bytes o (λ n k. (0 < n → batch_length task ≤ k) × (k < 2 * batch_length task))
Tags task N lines bytes o NoMemory = HoldsBack task N lines bytes o (λ n k. (0 < n → 0 < k) × (k ≤ 2 * batch_length task))
Tags task N lines bytes o TapeFault = FailsToTag task N lines bytes o
Tags task N lines bytes o status = ⊥

-- BOTH

abbrev pub StreamsBy : Method → Task → ℕ → List (List ℕ) → List ℕ → Outside → Status → Type 0
StreamsBy (InCounterMode m cipher) task N lines bytes o status = StreamsOut task N lines bytes o status
StreamsBy (AsStream iv) task N lines bytes o status = StreamsOut task N lines bytes o status
StreamsBy (AsCode code) task N lines bytes o status = Tags task N lines bytes o status

-- what each status says
abbrev pub Streams : Task → ℕ → List (List ℕ) → List ℕ → Outside → Status → Type 0
Streams task N lines bytes o status = StreamsBy (method_of task) task N lines bytes o status

-- These bytes of the message were taken, and they are as said. No more steps were counted than a run on them has.
pub record TakesMessage (task : Task) (N : ℕ) (lines : List (List ℕ)) (o : Outside) (status : Status) : Type 0 where
  pub bytes : List ℕ
  pub taken : Consumes o.left_before o.left_after bytes
  pub streams : Streams task N lines bytes o status
  pub counted : o.steps_after ≤ o.steps_before + most_run_steps task (length bytes)

-- What `enc` or `mac` does at order d, N - 1: these bytes were taken of the key file and these of the message, and it ends so. No more steps
-- were counted than a run on this message has.
pub record Encs (task : Task) (N : ℕ) (o : Outside) (status : Status) : Type 0 where
  pub keys : List ℕ
  pub keys_taken : Consumes o.keys_before o.keys_after keys
  pub bytes : List ℕ
  pub taken : Consumes o.left_before o.left_after bytes
  pub ends : KeyEnds N (Exactly (key_bytes task)) (λ lines s. Streams task N lines bytes o s) keys o.keys_after status
  pub counted : o.steps_after ≤ o.steps_before + most_run_steps task (length bytes)

-- What the watch was told more are evaluations of strong circuits on N shares, and nothing else.
abbrev pub TellsStrongCalls : ℕ → Option (List Told) → Option (List Told) → Type 0
TellsStrongCalls N before now = (calls : List Told) × (now ≡ told_more before calls) × All (IsStrongEvaluation N) calls
