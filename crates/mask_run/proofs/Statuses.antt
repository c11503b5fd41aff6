-- With which statuses jobs end where nothing that they read is out of form.
use Rattle.std.proofs.Common.{◌≡◌, ℕ, suc, ◌<◌, ◌≤◌, false, List, length, None, Some, refl, sym, ap, inl, inr}
use Rattle.std.specs.declared.option.Option.{Option}
use Rattle.std.specs.Io.KnownBytes.{IsAtEnd}
use Rattle.mask_tasks.specs.declared.tasks.Task.{Task}
use Rattle.mask_circuit.specs.Netlist.{Netlist}
use Rattle.mask_tasks.specs.Tasks.{longest_message}
use Rattle.mask_keys.specs.Files.{line_text}
use Rattle.mask_keys.specs.Lines.{joined}
use Rattle.mask_words.specs.WordTests.{Word}
use Rattle.mask_words.specs.Jobs.{word_at}
use Rattle.mask_words.specs.declared.table.Job.{Job}
use Rattle.mask_words.specs.declared.table.Job.TheVariants as jobs
use Rattle.mask_status.specs.declared.status.Status.{Status}
use Rattle.mask_status.specs.declared.status.Status.TheVariants.{Done, TooLong, ReadFault, TapeFault, WriteFault, NoMemory}
use Rattle.mask_status.specs.Ends.{Writes, is_key_fault, is_read_fault}
use Rattle.mask_secrets.specs.Splitting.{Sides, Splits, only_line}
use Rattle.mask_emit.specs.Emitting.{named, Emits}
use Rattle.mask_message.specs.Outside.{Outside}
use Rattle.mask_message.specs.Encrypting.{Streams, StreamsOut, Tags}
use Rattle.mask_message.proofs.Ending.{ciphertext_or_tag}
use Rattle.mask_self.specs.Selves.{RunsItself}
use Rattle.mask_run.specs.Outside.{sides}
use Rattle.mask_run.specs.Evaluating.{Evaluated}
use Rattle.mask_run.specs.Promises.{Kind, OnCircuit, OnKeys, OnWords, kind_of}

-- a message with a limit was taken whole
abbrev pub IsWhole : Option ℕ → List ℕ → Option (List ℕ) → Type 0
IsWhole None bytes rest = Unit {0}
IsWhole (Some limit) bytes rest = IsAtEnd rest × (length bytes ≤ limit)

-- what jobs do ends with one of these
abbrev pub IsLate : Option ℕ → List ℕ → Option (List ℕ) → Status → Type 0
IsLate limit bytes rest Done = IsWhole limit bytes rest
IsLate limit bytes rest (TooLong most) = (limit ≡ Some most) × (most < length bytes)
IsLate limit bytes rest ReadFault = Unit {0}
IsLate limit bytes rest TapeFault = Unit {0}
IsLate limit bytes rest WriteFault = Unit {0}
IsLate limit bytes rest NoMemory = Unit {0}
IsLate limit bytes rest status = ⊥

module _ (bytes : List ℕ) (rest : Option (List ℕ)) where
  Writes-late : (line : List ℕ) (before now : Option (List ℕ)) (status : Status) → Writes line before now status → IsLate None bytes rest status
  Writes-late line before now Done h = tt
  Writes-late line before now WriteFault h = tt
  Writes-late line before now status h = absurd h

  Evaluated-late : (text : List ℕ) (hex : Word) (d : ℕ) (o : Outside) (status : Status) → Evaluated text hex d o status → IsLate None bytes rest status
  Evaluated-late text hex d o TapeFault h = tt
  Evaluated-late text hex d o status h = Writes-late h.line o.out_before o.out_after status h.written

  Splits-late : (d : ℕ) (key : List ℕ) (o : Sides) (status : Status) → Splits d key o status → IsLate None bytes rest status
  Splits-late d key o Done h = tt
  Splits-late d key o WriteFault h = tt
  Splits-late d key o TapeFault h = tt
  Splits-late d key o NoMemory h = tt
  Splits-late d key o status h = absurd h

  Emits-late : (circuit : Netlist) (before now : Option (List ℕ)) (status : Status) → Emits circuit before now status → IsLate None bytes rest status
  Emits-late circuit before now Done h = tt
  Emits-late circuit before now WriteFault h = tt
  Emits-late circuit before now NoMemory h = tt
  Emits-late circuit before now status h = absurd h

  RunsItself-late : (seed N count : ℕ) (o : Outside) (status : Status) → RunsItself seed N count o status → IsLate None bytes rest status
  RunsItself-late seed N count o Done h = tt
  RunsItself-late seed N count o WriteFault h = tt
  RunsItself-late seed N count o TapeFault h = tt
  RunsItself-late seed N count o NoMemory h = tt
  RunsItself-late seed N count o status h = absurd h.0

module _ (task : Task) (N : ℕ) (lines : List (List ℕ)) (bytes : List ℕ) (o : Outside) where
  out-late : (status : Status) → StreamsOut task N lines bytes o status → IsLate (Some (longest_message task)) bytes o.left_after status
  out-late Done h = (h.at_end, h.within)
  out-late (TooLong limit) h = (sym (ap Some h.0), h.1)
  out-late ReadFault h = tt
  out-late TapeFault h = tt
  out-late WriteFault h = tt
  out-late NoMemory h = tt
  out-late status h = absurd h

  tag-late : (status : Status) → Tags task N lines bytes o status → IsLate (Some (longest_message task)) bytes o.left_after status
  tag-late Done h = (h.at_end, h.within)
  tag-late (TooLong limit) h = (sym (ap Some h.0), h.1)
  tag-late ReadFault h = tt
  tag-late TapeFault h = tt
  tag-late WriteFault h = tt
  tag-late NoMemory h = tt
  tag-late status h = absurd h

  Streams-late : (status : Status) → Streams task N lines bytes o status → IsLate (Some (longest_message task)) bytes o.left_after status
  Streams-late status h =
      elim (ciphertext_or_tag task N lines bytes o status h) [ inl ciphertext ↦ out-late status ciphertext | inr tag ↦ tag-late status tag ]

-- a run that makes its own input has no fault of a key file or an input
pub RunsItself-unread : (seed N count : ℕ) (o : Outside) (status : Status) → RunsItself seed N count o status →
    (is_key_fault status ≡ false) × (is_read_fault status ≡ false)
RunsItself-unread seed N count o Done h = (refl, refl)
RunsItself-unread seed N count o WriteFault h = (refl, refl)
RunsItself-unread seed N count o TapeFault h = (refl, refl)
RunsItself-unread seed N count o NoMemory h = (refl, refl)
RunsItself-unread seed N count o status h = absurd h.0

abbrev pub DoesLate : Kind → Type 0
DoesLate (OnCircuit checks cost bits Did) = (o : Outside) (text : List ℕ) (status : Status) → Did o text status → IsLate None text o.left_after status
DoesLate (OnKeys count asked limit cost Did) = (o : Outside) (lines : List (List ℕ)) (bytes : List ℕ) (status : Status) → Did o lines bytes status →
    IsLate limit bytes o.left_after status
DoesLate (OnWords cost Did) = (o : Outside) (bytes : List ℕ) (status : Status) → Did o status → IsLate None bytes o.left_after status

pub does_late : (job : Job) (words : List Word) → DoesLate (kind_of job words)
does_late (jobs.Eval order) words = λ o text status h. Evaluated-late text o.left_after text (word_at words 5) order o status h
does_late jobs.Check words = λ o text status h. Writes-late text o.left_after h.line o.out_before o.out_after status h.written
does_late jobs.Upgrade words = λ o text status h. Writes-late text o.left_after _ o.out_before o.out_after status h.written
does_late (jobs.Probe order) words = λ o text status h. Writes-late text o.left_after h.report o.out_before o.out_after status h.written
does_late (jobs.Enc task order) words = λ o lines bytes status h. Streams-late task (suc order) lines bytes o status h
does_late (jobs.Mac task order) words = λ o lines bytes status h. Streams-late task (suc order) lines bytes o status h
does_late (jobs.Split order) words = λ o lines bytes status h. Splits-late bytes o.left_after order (only_line lines) (sides o) status h
does_late (jobs.Join order) words = λ o lines bytes status h. Writes-late bytes o.left_after (line_text (joined lines)) o.out_before o.out_after status h
does_late (jobs.Emit circuit) words = λ o bytes status h. Emits-late bytes o.left_after (named circuit) o.out_before o.out_after status h
does_late (jobs.SelfRun seed count order) words = λ o bytes status h. RunsItself-late bytes o.left_after seed (suc order) count o status h
