-- What a session holds between its calls, and what a call does.
use Rattle.std.specs.Prelude.{◌≡◌, ℕ, suc, ◌+◌, ◌-◌, ◌*◌, ◌/◌, ◌%◌, ◌<◌, ◌≤◌, Bool, true, false, List, [], ◌++◌, length, take, drop, slice_index, slice_index_or, Option, Some, None, Result, Ok, Err}
use Rattle.mask_bits.specs.Lanes.{lane}
use Rattle.mask_bits.specs.Reading.{bit}
use Rattle.mask_circuit.specs.Ring.{bits}
use Rattle.mask_circuit.specs.Sharing.{unmasked}
use Rattle.mask_tape.specs.Tape.{new_bytes}
use Rattle.mask_tape.specs.declared.tape.TapeError.{TapeError}
use Rattle.mask_tape.specs.declared.tape.TapeError.TheVariants as tape_error
use Rattle.mask_tasks.specs.declared.tasks.Task.{Task}
use Rattle.mask_tasks.specs.declared.tasks.Task.TheVariants.{Present, Lea, Trivium, LightMac, Chaskey}
use Rattle.mask_tasks.specs.Tasks.{longest_message}
use Rattle.mask_trace.specs.Steps.{Registers, Step, bits_of}
use Rattle.mask_trace.specs.Traces.{BitShares}
use Rattle.mask_trace.specs.Values.{values_of, value_after}
use Rattle.mask_trace.specs.Drawing.{Stand, Ran, RanPart}
use Rattle.mask_ciphers.specs.Methods as methods
use Rattle.mask_ciphers.specs.Tasks.{method_of}
use Rattle.mask_plan.specs.declared.session.Stop.{Stop}
use Rattle.mask_plan.specs.declared.session.Stop.TheVariants.{TooLong, TapeFault, NoMemory}
use Rattle.mask_plan.specs.declared.session.PlanError.{PlanError}
use Rattle.mask_plan.specs.declared.session.PlanError.TheVariants.{Refused, Closed}

-- The task; what is held in shares, as the key that is in use; how many bytes of the message were taken; the refusal that
-- closed it; whether the message has ended; and how many bytes the latest call has to hand out, of blocks in these words.
pub record Progress : Type 0 where
  pub task : Task
  pub held : Registers BitShares
  pub fed : ℕ
  pub closed : Option Stop
  pub ended : Bool
  pub written : ℕ
  pub outputs : List (List ℕ)

-- how many bytes are taken at once
abbrev pub batch_length : Task → ℕ
batch_length task = methods.batch (method_of task)

-- the steps of the next bytes of the message, the last of it or not
abbrev pub next_steps : Progress → List ℕ → Bool → List Step
next_steps s piece last = methods.next_steps (method_of s.task) s.fed piece last

-- those that come ahead of these bytes' own
abbrev pub ahead : Progress → Bool → List Step
ahead s last = methods.ahead (method_of s.task) s.fed last

-- what is written of these bytes
abbrev pub next_output : Progress → List ℕ → Bool → List ℕ
next_output s piece last = methods.next_output (method_of s.task) (values_of s.held) s.fed piece last

-- how many bytes of the message are known with them
abbrev pub known_bytes : Progress → List ℕ → Bool → ℕ
known_bytes s piece last = s.fed + (length piece + methods.known_behind (method_of s.task) last)

-- how many gates are evaluated for them
abbrev pub gates_for : Progress → List ℕ → Bool → ℕ
gates_for s piece last = methods.next_gates (method_of s.task) s.fed piece last

-- how many bytes a block has
abbrev pub block_length : Task → ℕ
block_length task = methods.block (method_of task)

-- where a block has bit `place` of its byte `byte`, as the cipher reads its bytes
abbrev pub bit_place : Task → ℕ → ℕ → ℕ
bit_place (Present size iv) byte place = 8 * (8 - suc byte) + place
bit_place (Lea size iv) byte place = 8 * byte + place
bit_place (Trivium iv) byte place = 288 + (8 * byte + place)
bit_place (LightMac size counter tag) byte place = 8 * (8 - suc byte) + place
bit_place (Chaskey tag) byte place = 8 * byte + place

-- among so many: those of a block, and behind the state of Trivium those of its output
abbrev pub output_bits : Task → ℕ
output_bits (Present size iv) = 64
output_bits (Lea size iv) = 128
output_bits (Trivium iv) = 352
output_bits (LightMac size counter tag) = 64
output_bits (Chaskey tag) = 128

-- the words of the shares of that bit, a block in each lane
abbrev pub out_words : Progress → ℕ → ℕ → List ℕ
out_words s byte place = slice_index_or s.outputs (bit_place s.task byte place) []

-- What is handed out are these bytes: with blocks of b bytes, byte k is byte k % b of the block in lane k / b, and the shares of
-- each of its bits stand there for that bit.
abbrev pub HandsOut : Progress → List ℕ → Type 0
HandsOut s bytes = (k p : ℕ) → k < length bytes → p < 8 →
    unmasked bits (lane (k / block_length s.task) (out_words s (k % block_length s.task) p)) ≡ bit p (slice_index bytes k)

-- These bytes were taken. All their steps were evaluated, and nothing else; so what is held stands for what they compute on
-- plain bits; and what is handed out is what is written of them. The first stand is that before the call, and the second that
-- after it.
pub record Evaluated (N : ℕ) (s s' : Progress) (piece : List ℕ) (last : Bool) (a b : Stand) : Type 0 where
  pub unclosed : s.closed ≡ None
  pub within : known_bytes s piece last ≤ longest_message s.task
  pub ran : Ran N s.held (next_steps s piece last) s'.held a b
  pub values : values_of s'.held ≡ value_after (values_of s.held) (next_steps s piece last)
  pub hands_out : HandsOut s' (next_output s piece last)

-- The tape failed behind the first steps, of those that come ahead of these bytes' own: it wants just the new bytes that the
-- next ones need, at least one.
pub record Interrupted (N : ℕ) (s : Progress) (piece : List ℕ) (last : Bool) (wanted : ℕ) (steps steps' : ℕ) (a b : Stand) : Type 0 where
  pub count : ℕ
  pub ran : RanPart N s.held (next_steps s piece last) count a b
  pub few : count ≤ length (ahead s last)
  pub next : List Step
  pub later : List Step
  pub follow : drop count (next_steps s piece last) ≡ next ++ later
  pub wants : wanted ≡ new_bytes b.kept (bits_of N next)
  pub some : 1 ≤ wanted
  pub counted : steps' ≡ steps + methods.gates_of (take count (ahead s last))

-- why a call was refused
abbrev pub Refuses : ℕ → Progress → List ℕ → Bool → ℕ → ℕ → ℕ → Stand → Stand → Stop → Type 0
Refuses N s piece last wanted steps steps' a b (TooLong limit) = (limit ≡ longest_message s.task) × (limit < known_bytes s piece last) × (b ≡ a) × (steps' ≡ steps)
Refuses N s piece last wanted steps steps' a b TapeFault = Interrupted N s piece last wanted steps steps' a b
Refuses N s piece last wanted steps steps' a b NoMemory = (b ≡ a) × (steps' ≡ steps)

-- the session behind a refusal: it is closed
abbrev pub IsClosedBy : Stop → Progress → Progress → Type 0
IsClosedBy stop s s' = s' ≡ record s { closed = Some stop; held = s'.held; written = s'.written; outputs = s'.outputs }

-- What a call to take these bytes did, by its answer; with Ok the message has ended where they are the last.
abbrev pub Answers : ℕ → Progress → Progress → List ℕ → Bool → ℕ → ℕ → ℕ → Stand → Stand → Result (Unit {0}) PlanError → Type 0
Answers N s s' piece last wanted steps steps' a b (Ok done) = Evaluated N s s' piece last a b × (steps' ≡ steps + gates_for s piece last)
    × (s' ≡ record s { held = s'.held; fed = s.fed + length piece; ended = last; written = methods.next_length (method_of s.task) piece last; outputs = s'.outputs })
Answers N s s' piece last wanted steps steps' a b (Err (Closed stop)) = (s.closed ≡ Some stop) × (s' ≡ s) × (b ≡ a) × (steps' ≡ steps)
Answers N s s' piece last wanted steps steps' a b (Err (Refused stop)) = (s.closed ≡ None) × IsClosedBy stop s s' × Refuses N s piece last wanted steps steps' a b stop

-- why a session stops where its tape gives no coins
abbrev pub stop_of : TapeError → Stop
stop_of tape_error.Failed = TapeFault
stop_of tape_error.NoMemory = NoMemory

-- the answer is that the tape failed in this call
abbrev pub failed_to_draw : Result (Unit {0}) PlanError → Bool
failed_to_draw (Err (Refused TapeFault)) = true
failed_to_draw answer = false

-- the session that holds these shares of a key, before the message
abbrev pub Begins : Task → Registers BitShares → Progress → Type 0
Begins task held s = s ≡ record { task = task; held = held; fed = 0; closed = None; ended = false; written = 0; outputs = s.outputs }
