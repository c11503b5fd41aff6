-- How a run ends by how its message ended.
use Rattle.std.proofs.Common.{◌≡◌, ℕ, pred, ◌+◌, ◌≤◌, Bool, true, false, List, [], ◌++◌, Some, Option, length, map, take, get_or, refl, ap, sym, ◌∙◌, subst, arith, length-append, ◌⊎◌, inl, inr}
use Rattle.std.proofs.lemmas.Bool.{false≢true}
use Rattle.std.proofs.lemmas.List.{append-nil, append_assoc}
use Rattle.std.specs.Io.KnownBytes.{Appends, IsAtEnd}
use Rattle.mask_tasks.specs.declared.tasks.Task.{Task}
use Rattle.mask_circuit.specs.Ring.{words}
use Rattle.mask_circuit.specs.Sharing.{unmasked}
use Rattle.mask_circuit.proofs.Places.{length-each}
use Rattle.mask_tasks.specs.Tasks.{IsTask, key_bytes, longest_message}
use Rattle.mask_keys.specs.Lines.{joined, line_length}
use Rattle.mask_ciphers.specs.Methods.{AreBatches, IsCipher, fed_steps}
use Rattle.mask_ciphers.specs.Tasks.{method_of, output, plan}
use Rattle.mask_ciphers.proofs.Gates.{gates_go_on}
use Rattle.mask_ciphers.proofs.Writing.{outputs_are_ciphertexts}
use Rattle.mask_status.specs.declared.status.Status.{Status}
use Rattle.mask_status.specs.declared.status.Status.TheVariants.{Done, Refused, BadWords, BadText, BadKeys, KeyFault, TooLong, ReadFault, TapeFault, WriteFault, BadProbe, NoMemory}
use Rattle.mask_status.specs.Ends.{is_read_fault}
use Rattle.mask_io.specs.Outside.{faults_after}
use Rattle.mask_message.specs.Outside.{Outside}
use Rattle.mask_message.specs.Encrypting.{Encrypts, RanSteps, StreamsOut, WroteBatches}
use Rattle.mask_message.specs.Encrypting as run
use Rattle.mask_message.specs.Counting.{most_run_steps}
use Rattle.mask_self.specs.Selves.{RunsWhole, FailsToDraw, BreaksOff}
use Rattle.mask_self.proofs.Carrying.{same-whole, same-plan, same-due, carried}
use Rattle.mask_self.proofs.Counting.{totals_grow}

-- of a source that tells its bytes the taken ones are all, where it is at its end
all-taken : (bytes rest message : List ℕ) → message ≡ bytes ++ rest → rest ≡ [] → bytes ≡ message
all-taken bytes rest message came none = sym (came ∙ ap (λ (r : List ℕ). bytes ++ r) none ∙ append-nil bytes)

module _ (task : Task) (is : IsTask task) (cipher : IsCipher (method_of task)) (N : ℕ) (lines : List (List ℕ)) (message bytes rest : List ℕ) (o : Outside) (some : 2 ≤ N) (came : message ≡ bytes ++ rest) (left : o.left_after ≡ Some rest) where
  none-left : IsAtEnd o.left_after → rest ≡ []
  none-left at_end = subst IsAtEnd left at_end

  -- THE WHOLE RUN

  module _ (e : Encrypts task N lines bytes o) where
    all : bytes ≡ message
    all = all-taken bytes rest message came (none-left e.at_end)

    -- the ciphertext of the message was written where nothing was
    pub ciphertext : (now : List ℕ) → o.out_before ≡ Some [] → o.out_after ≡ Some now → now ≡ output task (joined lines) message
    ciphertext now before after =
        let written : now ≡ [] ++ output task (joined lines) bytes
        = subst (λ (x : Option (List ℕ)). Appends (Some []) x (output task (joined lines) bytes)) after
        (subst (λ (x : Option (List ℕ)). Appends x o.out_after (output task (joined lines) bytes)) before e.written) in
        written ∙ ap (output task (joined lines)) all

    pub runs_whole : RunsWhole task N lines message o
    runs_whole = subst (λ (bs : List ℕ). RunsWhole task N lines bs o) all (record { ran = e.ran; drawn = e.drawn })

  -- A RUN THAT STOPS

  -- what ran on whole batches, or on all bytes, ran on the message
  ran-whole : AreBatches (method_of task) (length bytes) ⊎ IsAtEnd o.left_after → run.RanAll task N lines bytes o → BreaksOff task N lines message o
  ran-whole (inl whole) ran =
      let count = length (plan task bytes) in
      (count, carried task N lines bytes message count o some is ran (same-plan task cipher bytes whole rest count (omega arith) ∙ ap (λ (bs : List ℕ). take count (plan task bs)) (sym came)))
  ran-whole (inr end) ran =
      let count = length (plan task bytes) in
      (count, carried task N lines bytes message count o some is ran (ap (λ (bs : List ℕ). take count (plan task bs)) (all-taken bytes rest message came (none-left end))))

  -- the tape failed
  pub fails_to_draw : run.FailsToDraw task N lines bytes o → FailsToDraw task N lines message o
  fails_to_draw e =
      let here : bytes ++ rest ≡ e.front ++ e.more ++ rest = ap (λ (bs : List ℕ). bs ++ rest) e.came in
      let same : take e.count (plan task bytes) ≡ take e.count (plan task message)
      = ap (λ (bs : List ℕ). take e.count (plan task bs)) e.came
      ∙ same-due task cipher e.front e.whole e.more rest e.count e.some_came e.few
      ∙ ap (λ (bs : List ℕ). take e.count (plan task bs)) (sym (came ∙ here)) in
      let longer : length bytes ≤ length message = omega (arith, ap length came, length-append bytes rest) in
      record {
        count = e.count;
        ran = carried task N lines bytes message e.count o some is e.ran same;
        wanted = e.wanted;
        within = omega (arith, e.within, totals_grow task cipher (pred N) (length bytes) (length message) longer);
      }

  -- nothing ran behind the whole batches that were written
  wrote : (front more : List ℕ) → bytes ≡ front ++ more → WroteBatches task N lines bytes front o → BreaksOff task N lines message o
  wrote front more split e =
      let count = length (fed_steps (method_of task) front) in
      let first : List ℕ → Type 0 = λ bs. take count (fed_steps (method_of task) front) ≡ take count (plan task bs) in
      let here : first bytes = subst first (sym split) (same-whole task cipher front e.whole more count (omega arith)) in
      let there : first message
      = subst first (sym (came ∙ ap (λ (bs : List ℕ). bs ++ rest) split ∙ append_assoc front more rest)) (same-whole task cipher front e.whole (more ++ rest) count (omega arith)) in
      (count, carried task N lines bytes message count o some is e.ran (sym here ∙ there))

  -- every other status but Done is want of memory: the message isn't too long, and its source never fails
  pub breaks_off : length message ≤ longest_message task → (status : Status) → (status ≡ Done → ⊥) → (status ≡ TapeFault → ⊥) → is_read_fault status ≡ false →
      StreamsOut task N lines bytes o status → BreaksOff task N lines message o
  breaks_off short Done done tape read e = absurd (done refl)
  breaks_off short TapeFault done tape read e = absurd (tape refl)
  breaks_off short WriteFault done tape read e = ran-whole e.whole e.ran
  breaks_off short NoMemory done tape read e = wrote e.0 e.1 e.2 e.4
  breaks_off short (TooLong limit) done tape read e =
      absurd (omega (arith, e.0, e.1, ap length came, length-append bytes rest))
  breaks_off short ReadFault done tape read e = absurd (false≢true (sym read))
  breaks_off short (Refused product source) done tape read e = absurd e
  breaks_off short (BadWords place) done tape read e = absurd e
  breaks_off short (BadText line reason) done tape read e = absurd e
  breaks_off short (BadKeys reason) done tape read e = absurd e
  breaks_off short KeyFault done tape read e = absurd e
  breaks_off short (BadProbe place) done tape read e = absurd e

-- WHAT ELSE THE OUTSIDE SHOWS

module _ (task : Task) (N : ℕ) (lines : List (List ℕ)) (message : List ℕ) (o : Outside) (keys_before keys_after left_before left_after out_before out_after : Option (List ℕ)) where
  abbrev other : Outside
  other = record o { keys_before = keys_before; keys_after = keys_after; left_before = left_before; left_after = left_after; out_before = out_before; out_after = out_after }

  abbrev seen : (count : ℕ) → RanSteps task N lines message count o → RanSteps task N lines message count other
  seen count ran = record { kept = ran.kept; part = ran.part; private = ran.private }

  pub whole_elsewhere : RunsWhole task N lines message o → RunsWhole task N lines message other
  whole_elsewhere e = record { ran = seen (length (plan task message)) e.ran; drawn = e.drawn }

  pub draws_elsewhere : FailsToDraw task N lines message o → FailsToDraw task N lines message other
  draws_elsewhere e = record { count = e.count; ran = seen e.count e.ran; wanted = e.wanted; within = e.within }

  pub breaks_elsewhere : BreaksOff task N lines message o → BreaksOff task N lines message other
  breaks_elsewhere e = (e.0, seen e.0 e.1)

-- STATUSES

-- a source whose count of faults is always 0 didn't fail
pub never_fails : (status : Status) → 0 ≡ faults_after (is_read_fault status) 0 → is_read_fault status ≡ false
never_fails status counts = go (is_read_fault status) counts
  where
    go : (failed : Bool) → 0 ≡ faults_after failed 0 → failed ≡ false
    go true counts = absurd (omega arith)
    go false counts = refl

-- STEPS

-- no more were counted than for the whole message
pub within_whole : (task : Task) → IsCipher (method_of task) → (message bytes rest : List ℕ) (count before now : ℕ) → length message ≡ count → message ≡ bytes ++ rest →
    now ≤ before + most_run_steps task (length bytes) → now ≤ before + most_run_steps task count
within_whole task cipher message bytes rest count before now size came few =
    omega (arith, gates_go_on.grow task cipher (length bytes) count (omega (arith, ap length came, length-append bytes rest)))

-- LENGTHS

-- a ciphertext is as long as its message
pub length-output : (task : Task) → IsCipher (method_of task) → (lines : List (List ℕ)) (message : List ℕ) → line_length lines ≡ key_bytes task → length (output task (joined lines) message) ≡ length message
length-output task cipher lines message long =
    outputs_are_ciphertexts.as_long task cipher (joined lines) message (length-each (λ b. unmasked words (map (λ (line : List ℕ). get_or line b 0) lines)) (line_length lines) ∙ long)
