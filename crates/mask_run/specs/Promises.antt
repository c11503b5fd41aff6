-- What the command promises, job by job. A new job is a row of `kind_of`: what it reads, what is tested of that, and what it did.
use Rattle.std.specs.Prelude.{◌≡◌, ◌⊎◌, ℕ, suc, ◌+◌, ◌^◌, ◌<◌, ◌≤◌, List, [], ◌∷◌, length, None, Some}
use Rattle.std.specs.declared.option.Option.{Option}
use Rattle.std.specs.Io.KnownBytes.{Consumes}
use Rattle.mask_circuit.specs.Netlist.{Netlist}
use Rattle.mask_check.specs.Costs.{most_steps}
use Rattle.mask_tasks.specs.declared.tasks.Task.{Task}
use Rattle.mask_tasks.specs.Tasks.{key_bytes, longest_message}
use Rattle.mask_keys.specs.declared.files.KeyLength.{KeyLength}
use Rattle.mask_keys.specs.declared.files.KeyLength.TheVariants.{Exactly, Any}
use Rattle.mask_words.specs.WordTests.{Word}
use Rattle.mask_words.specs.Jobs.{word_at}
use Rattle.mask_words.specs.declared.table.Job.{Job}
use Rattle.mask_words.specs.declared.table.Job.TheVariants as jobs
use Rattle.mask_status.specs.declared.status.Status.{Status}
use Rattle.mask_status.specs.declared.status.Status.TheVariants.{TooLong, KeyFault, ReadFault, TapeFault, WriteFault, NoMemory}
use Rattle.mask_inspect.specs.Checks.{Check, Grammar, Inputs, Acceptance, Probes, FirstFailure, AllPass}
use Rattle.mask_inspect.specs.Ends.{Ends, IsRead, CostsAtMost}
use Rattle.mask_inspect.specs.Checking.{PrintsVerdict}
use Rattle.mask_inspect.specs.Upgrading.{PrintsSpelling}
use Rattle.mask_inspect.specs.Probing.{wires_of, PrintsNeed}
use Rattle.mask_secrets.specs.KeyEnds.{KeyEnds, IsKeysDue, IsInForm}
use Rattle.mask_secrets.specs.Splitting.{Splits, only_line}
use Rattle.mask_secrets.specs.Joining.{Joins}
use Rattle.mask_emit.specs.Emitting.{named, Emits}
use Rattle.mask_message.specs.Outside.{Outside}
use Rattle.mask_message.specs.Counting.{most_run_steps}
use Rattle.mask_message.specs.Encrypting.{Streams}
use Rattle.mask_self.specs.Selves.{RunsItself, own_task}
use Rattle.mask_run.specs.Outside.{sides}
use Rattle.mask_run.specs.Calls.{eval_bits}
use Rattle.mask_run.specs.Evaluating.{Evaluated}

-- what a job is done on
pub data Kind : Type 1 where
  -- A circuit text of the input, of which this is tested, in order. On its circuit so many steps are counted at most, and so many
  -- bits drawn. This is what was done where no test fails, with the text that was taken.
  OnCircuit : (checks : List Check) → (cost bits : Netlist → ℕ) → (Did : Outside → List ℕ → Status → Type 0) → Kind
  -- So many key lines of this length, and a message of no more bytes than the limit, if there is one. On so many bytes of it so many
  -- steps are counted at most. This is what was done with the lines, and with the bytes of the message that were taken.
  OnKeys : (count : ℕ) → (asked : KeyLength) → (limit : Option ℕ) → (cost : ℕ → ℕ) → (Did : Outside → List (List ℕ) → List ℕ → Status → Type 0) → Kind
  -- the words alone, with so many steps at most
  OnWords : (cost : ℕ) → (Did : Outside → Status → Type 0) → Kind

-- a message under a key, by this task at this order
abbrev pub on_message : Task → ℕ → Kind
on_message task order = OnKeys (suc order) (Exactly (key_bytes task)) (Some (longest_message task))
    (most_run_steps task) (λ o lines bytes status. Streams task (suc order) lines bytes o status)

-- the promise of each job
abbrev pub kind_of : Job → List Word → Kind
kind_of (jobs.Eval order) words = OnCircuit (Grammar ∷ Inputs (word_at words 5) ∷ Acceptance ∷ [])
    (λ c. most_steps c + length c.gates) (λ c. eval_bits c order) (λ o text status. Evaluated text (word_at words 5) order o status)
kind_of jobs.Check words = OnCircuit (Grammar ∷ Acceptance ∷ [])
    most_steps (λ c. 0) (λ o text status. PrintsVerdict text o.out_before o.out_after status)
kind_of jobs.Upgrade words = OnCircuit (Grammar ∷ [])
    (λ c. 0) (λ c. 0) (λ o text status. PrintsSpelling text o.out_before o.out_after status)
kind_of (jobs.Probe order) words = OnCircuit (Grammar ∷ Acceptance ∷ Probes order (wires_of words) ∷ [])
    most_steps (λ c. 0) (λ o text status. PrintsNeed text order (wires_of words) o.out_before o.out_after status)
kind_of (jobs.Enc task order) words = on_message task order
kind_of (jobs.Mac task order) words = on_message task order
kind_of (jobs.Split order) words = OnKeys 1 Any None (λ n. 0) (λ o lines bytes status. Splits order (only_line lines) (sides o) status)
kind_of (jobs.Join order) words = OnKeys (suc order) Any None (λ n. 0) (λ o lines bytes status. Joins o.out_before o.out_after lines status)
kind_of (jobs.Emit circuit) words = OnWords (most_steps (named circuit)) (λ o status. Emits (named circuit) o.out_before o.out_after status)
kind_of (jobs.SelfRun seed count order) words = OnWords (most_run_steps (own_task seed (suc order)) count)
    (λ o status. RunsItself seed (suc order) count o status)

-- how such a job ends where it took these bytes of the key file and of the input
abbrev pub EndsOn : Kind → Outside → List ℕ → List ℕ → Status → Type 0
EndsOn (OnCircuit checks cost bits Did) o keys text status = Ends (2 ^ 25) checks (Did o text) text o.left_after status
EndsOn (OnKeys count asked limit cost Did) o keys text status = KeyEnds count asked (λ lines s. Did o lines text s) keys o.keys_after status
EndsOn (OnWords cost Did) o keys text status = Did o status

-- the tape is as it was, or these bytes were read and stand for a circuit on which so many bits are drawn, at least one
abbrev pub AsksOnlyFor : Type 0 → (Netlist → ℕ) → List ℕ → Option (List ℕ) → Type 0
AsksOnlyFor same bits bytes rest = same ⊎ ((c : Netlist) × IsRead bytes rest c × (1 ≤ bits c))

-- what a job counts, where it took these bytes of the input, and what one on a circuit asks for
abbrev pub Costs : Kind → Outside → List ℕ → Type 0
Costs (OnCircuit checks cost bits Did) o text = CostsAtMost cost o.steps_before o.steps_after text o.left_after
Costs (OnKeys count asked limit cost Did) o text = o.steps_after ≤ o.steps_before + cost (length text)
Costs (OnWords cost Did) o text = o.steps_after ≤ o.steps_before + cost

abbrev pub Asks : Kind → Type 0 → Outside → List ℕ → Type 0
Asks (OnCircuit checks cost bits Did) same o text = AsksOnlyFor same bits text o.left_after
Asks kind same o text = Unit {0}

-- A run of the job, by the bytes that it took from key file and input, whatever sources they came from.
pub record Runs (job : Job) (words : List Word) (o : Outside) (tape_same : Type 0) (status : Status) : Type 0 where
  pub keys : List ℕ
  pub keys_taken : Consumes o.keys_before o.keys_after keys
  pub bytes : List ℕ
  pub taken : Consumes o.left_before o.left_after bytes
  pub ends : EndsOn (kind_of job words) o keys bytes status
  pub costs : Costs (kind_of job words) o bytes
  pub asks : Asks (kind_of job words) tape_same o bytes

-- the message passes the limit, and this is the status that says so
abbrev pub PassesLimit : Option ℕ → List ℕ → Status → Type 0
PassesLimit None text status = ⊥
PassesLimit (Some limit) text status = (limit < length text) × (status ≡ TooLong limit)

abbrev pub IsWithinLimit : Option ℕ → List ℕ → Type 0
IsWithinLimit None text = Unit {0}
IsWithinLimit (Some limit) text = length text ≤ limit

-- the status that is due to what can't be worked on, key file and input
abbrev pub IsDue : Kind → List ℕ → List ℕ → Status → Type 0
IsDue (OnCircuit checks cost bits Did) keys text status = ((2 ^ 25 < length text) × (status ≡ TooLong (2 ^ 25)))
    ⊎ ((length text ≤ 2 ^ 25) × FirstFailure checks text status)
IsDue (OnKeys count asked limit cost Did) keys text status = IsKeysDue count asked keys status
    ⊎ (IsInForm count asked keys × PassesLimit limit text status)
IsDue (OnWords cost Did) keys text status = ⊥

-- what may come before it: faults of what is read, and want of memory; and behind a key file in form, what comes batch by batch
abbrev pub earlier : Kind → List Status
earlier (OnCircuit checks cost bits Did) = ReadFault ∷ NoMemory ∷ []
earlier (OnKeys count asked None cost Did) = KeyFault ∷ []
earlier (OnKeys count asked (Some limit) cost Did) = KeyFault ∷ ReadFault ∷ TapeFault ∷ WriteFault ∷ NoMemory ∷ []
earlier (OnWords cost Did) = []

-- key file and input are such that the job can be done
abbrev pub CanBeDone : Kind → List ℕ → List ℕ → Type 0
CanBeDone (OnCircuit checks cost bits Did) keys text = (length text ≤ 2 ^ 25) × AllPass checks text
CanBeDone (OnKeys count asked limit cost Did) keys text = IsInForm count asked keys × IsWithinLimit limit text
CanBeDone (OnWords cost Did) keys text = Unit {0}

-- the job reads a circuit text
abbrev pub ReadsCircuit : Job → Type 0
ReadsCircuit (jobs.Eval order) = Unit {0}
ReadsCircuit jobs.Check = Unit {0}
ReadsCircuit jobs.Upgrade = Unit {0}
ReadsCircuit (jobs.Probe order) = Unit {0}
ReadsCircuit job = ⊥

-- with this status nothing is left of the text
abbrev pub ReadsAll : Status → Type 0
ReadsAll (TooLong limit) = ⊥
ReadsAll ReadFault = ⊥
ReadsAll NoMemory = ⊥
ReadsAll status = Unit {0}

-- the status is one of these
abbrev pub OneOf : Status → List Status → Type 0
OneOf status [] = ⊥
OneOf status (s ∷ ss) = (status ≡ s) ⊎ OneOf status ss

-- on this circuit the job draws nothing
abbrev pub DrawsNothingOn : Kind → Netlist → Type 0
DrawsNothingOn (OnCircuit checks cost bits Did) c = bits c ≡ 0
DrawsNothingOn kind c = ⊥

-- the most steps of the job on this circuit
abbrev pub most_steps_of : Kind → Netlist → ℕ
most_steps_of (OnCircuit checks cost bits Did) c = cost c
most_steps_of kind c = 0
