-- A run that goes on behind whole batches.
use Rattle.std.proofs.Common.{◌≡◌, ℕ, ◌+◌, ◌-◌, ◌*◌, ◌%◌, ◌<◌, ◌≤◌, Bool, true, false, Option, List, [], ◌∷◌, ◌++◌, None, length, refl, sym, ap, ap₂, ◌∙◌, subst, arith, length-append}
use Rattle.std.proofs.KnownBytes.{Appends-nil, Appends-trans, Consumes-nil, Consumes-trans}
use Rattle.std.proofs.Math.Nat.{add-mod_left, zero-mod}
use Rattle.std.specs.Io.KnownBytes.{Appends, Consumes}
use Rattle.mask_tasks.specs.declared.tasks.Task.{Task}
use Rattle.mask_tasks.specs.Tasks.{IsTask, key_bytes, longest_message}
use Rattle.mask_keys.specs.Lines.{joined, line_length}
use Rattle.mask_trace.specs.Steps.{Registers, Step}
use Rattle.mask_trace.specs.Values.{value_after, values_of}
use Rattle.mask_trace.specs.Drawing.{Stand, Ran}
use Rattle.mask_trace.proofs.Drawing.{runs_join}
use Rattle.mask_ciphers.specs.Methods.{AreBatches, MayEnd, fed_gates, fed_steps, next_gates, run_gates}
use Rattle.mask_ciphers.specs.Methods as methods
use Rattle.mask_ciphers.specs.Tasks.{fed_output, held_at_first, method_of, output, plan, with_lines}
use Rattle.mask_ciphers.specs.Laws.{held_behind}
use Rattle.mask_ciphers.proofs.Batches.{some_batch}
use Rattle.mask_ciphers.proofs.Gates.{gates_go_on}
use Rattle.mask_ciphers.proofs.Writing.{messages_go_on}
use Rattle.mask_plan.specs.Sessions.{Progress, Begins, Evaluated, batch_length, gates_for, known_bytes, next_steps, next_output}
use Rattle.mask_message.specs.Sessions.{HasKeyOf, HasTaken}

-- BATCHES

pub batches-more : (task : Task) (n k : ℕ) → AreBatches (method_of task) n → k ≡ batch_length task → AreBatches (method_of task) (n + k)
batches-more task n k whole all =
    let sum : n + k ≡ batch_length task + n = omega (arith, all) in
    ap (λ (x : ℕ). x % batch_length task) sum ∙ add-mod_left (batch_length task) n ∙ whole

-- a batch more leaves less room below the limit
pub room-smaller : (task : Task) (fed fed' n behind : ℕ) → fed' ≡ fed + n → fed + (n + behind) ≤ longest_message task → n ≡ batch_length task →
    longest_message task - fed' < longest_message task - fed
room-smaller task fed fed' n behind is within all = omega (arith, some_batch task)

-- STEPS

-- what is held behind steps and more steps
value_after-append : (held : Registers Bool) (ss ts : List Step) → value_after held (ss ++ ts) ≡ value_after (value_after held ss) ts
unfolding value_after
value_after-append held [] ts = refl
value_after-append held (s ∷ ss) ts = value_after-append _ ss ts

-- RUNS

-- These steps of a run under the key of these lines were evaluated for n bytes, and the session holds what they left.
pub record Behind (task : Task) (N : ℕ) (lines : List (List ℕ)) (steps : List Step) (n : ℕ) (s : Progress) (a b : Stand) : Type 0 where
  pub ran : Ran N (with_lines task lines) steps s.held a b
  pub task_is : s.task ≡ task
  pub unclosed : s.closed ≡ None
  pub fed_is : s.fed ≡ n
  pub values : values_of s.held ≡ value_after (held_at_first task (joined lines)) steps
  pub within : n ≤ longest_message task

-- behind whole batches
abbrev pub BehindBatches : Task → ℕ → List (List ℕ) → List ℕ → Progress → Stand → Stand → Type 0
BehindBatches task N lines front s a b = Behind task N lines (fed_steps (method_of task) front) (length front) s a b

-- Whole batches were taken, what is written of them was written, and no more steps were counted than they have gates, since the
-- source, the sink and the count stood there.
pub record SoFar (task : Task) (N : ℕ) (lines : List (List ℕ)) (bytes : List ℕ) (s : Progress) (left left' out out' : Option (List ℕ)) (steps steps' : ℕ) (a b : Stand) : Type 0 where
  pub taken : Consumes left left' bytes
  pub written : Appends out out' (fed_output task (joined lines) bytes)
  pub whole : AreBatches (method_of task) (length bytes)
  pub unended : s.ended ≡ false
  pub counted : steps' ≤ steps + fed_gates (method_of task) (length bytes)
  pub behind : BehindBatches task N lines bytes s a b

-- a session that begins is behind no byte
behind-none : (task : Task) (N : ℕ) (lines : List (List ℕ)) (s : Progress) (a : Stand) → a.kept ≡ [] → Begins task (with_lines task lines) s →
    values_of (with_lines task lines) ≡ held_at_first task (joined lines) → BehindBatches task N lines [] s a a
unfolding value_after
behind-none task N lines s a fresh begins key =
    let few : length a.kept < 8 = omega (arith, ap length fresh) in
    let holds : s.held ≡ with_lines task lines = ap (λ (p : Progress). p.held) begins in
    record {
      ran = rw (holds, messages_go_on.no_steps task) (runs_join.none N (with_lines task lines) a few);
      task_is = ap (λ (p : Progress). p.task) begins;
      unclosed = ap (λ (p : Progress). p.closed) begins;
      fed_is = ap (λ (p : Progress). p.fed) begins;
      values = rw (messages_go_on.no_steps task) (ap values_of holds ∙ key);
      within = omega arith;
    }

module _ (task : Task) (N : ℕ) (lines : List (List ℕ)) (front piece : List ℕ) (last : Bool) (s : Progress) (a b : Stand)
    (behind : BehindBatches task N lines front s a b) (whole : AreBatches (method_of task) (length front)) where
  -- the session's next steps and output are those of the message
  next_steps-are : next_steps s piece last ≡ methods.next_steps (method_of task) (length front) piece last
  next_steps-are = ap₂ (λ (t : Task) (n : ℕ). methods.next_steps (method_of t) n piece last) behind.task_is behind.fed_is

  pub next_output-is : next_output s piece last ≡ methods.next_output (method_of task) (held_behind task (joined lines) front) (length front) piece last
  next_output-is =
      ap₂ (λ (t : Task) (n : ℕ). methods.next_output (method_of t) (values_of s.held) n piece last) behind.task_is behind.fed_is
      ∙ ap (λ (held : Registers Bool). methods.next_output (method_of task) held (length front) piece last) behind.values

  pub gates-are : gates_for s piece last ≡ next_gates (method_of task) (length front) piece last
  gates-are = ap₂ (λ (t : Task) (n : ℕ). next_gates (method_of t) n piece last) behind.task_is behind.fed_is

  -- the session took the piece
  pub behind-more : (s' : Progress) (c : Stand) → Evaluated N s s' piece last b c → HasTaken s s' piece last →
      Behind task N lines (fed_steps (method_of task) front ++ next_steps s piece last) (length (front ++ piece)) s' a c
  behind-more s' c evaluated now =
      let limit : known_bytes s piece last ≤ longest_message task = subst (λ (t : Task). known_bytes s piece last ≤ longest_message t) behind.task_is evaluated.within in
      let fed = behind.fed_is in
      let more : s'.fed ≡ s.fed + length piece = ap (λ (p : Progress). p.fed) now in
      let sum = length-append front piece in
      record {
        ran = runs_join.all N (with_lines task lines) s.held s'.held (fed_steps (method_of task) front) (next_steps s piece last) a b c behind.ran evaluated.ran;
        task_is = ap (λ (p : Progress). p.task) now ∙ behind.task_is;
        unclosed = ap (λ (p : Progress). p.closed) now ∙ behind.unclosed;
        fed_is = omega arith;
        values = evaluated.values ∙ ap (λ (held : Registers Bool). value_after held (next_steps s piece last)) behind.values
            ∙ sym (value_after-append (held_at_first task (joined lines)) (fed_steps (method_of task) front) (next_steps s piece last));
        within = omega arith;
      }

module _ (task : Task) (N : ℕ) (lines : List (List ℕ)) (front piece : List ℕ) (s : Progress) (a b : Stand)
    (behind : BehindBatches task N lines front s a b) (whole : AreBatches (method_of task) (length front)) where
  -- the gates that are evaluated for the piece are those that it adds
  pub counted-fed : length piece ≡ batch_length task → (steps now now' : ℕ) → now ≤ steps + fed_gates (method_of task) (length front) →
      now' ≤ now + gates_for s piece false → now' ≤ steps + fed_gates (method_of task) (length (front ++ piece))
  counted-fed all steps now now' counted more =
      rw (length-append front piece)
      (omega (arith, gates-are task N lines front piece false s a b behind whole, gates_go_on.fed task (length front) piece whole all))

  pub counted-last : length piece ≤ batch_length task → MayEnd (method_of task) (length front) piece → (steps now now' : ℕ) → now ≤ steps + fed_gates (method_of task) (length front) →
      now' ≤ now + gates_for s piece true → now' ≤ steps + run_gates (method_of task) (length (front ++ piece))
  counted-last few ends steps now now' counted more =
      rw (length-append front piece)
      (omega (arith, gates-are task N lines front piece true s a b behind whole, gates_go_on.last task (length front) piece whole few ends))

  -- whole batches with more behind them, and the whole message
  pub fed_steps-go_on : length piece ≡ batch_length task → fed_steps (method_of task) (front ++ piece) ≡ fed_steps (method_of task) front ++ next_steps s piece false
  fed_steps-go_on all =
      messages_go_on.steps_fed task front piece whole all
      ∙ ap (λ (steps : List Step). fed_steps (method_of task) front ++ steps) (sym (next_steps-are task N lines front piece false s a b behind whole))

  pub plan-goes_on : MayEnd (method_of task) (length front) piece → plan task (front ++ piece) ≡ fed_steps (method_of task) front ++ next_steps s piece true
  plan-goes_on ends =
      messages_go_on.steps_last task front piece whole ends
      ∙ ap (λ (steps : List Step). fed_steps (method_of task) front ++ steps) (sym (next_steps-are task N lines front piece true s a b behind whole))

  pub fed_output-goes_on : IsTask task → length (joined lines) ≡ key_bytes task → length piece ≡ batch_length task →
      fed_output task (joined lines) (front ++ piece) ≡ fed_output task (joined lines) front ++ next_output s piece false
  fed_output-goes_on is long all =
      messages_go_on.output_fed task is (joined lines) front piece long whole all
      ∙ ap (λ (bytes : List ℕ). fed_output task (joined lines) front ++ bytes) (sym (next_output-is task N lines front piece false s a b behind whole))

  pub output-goes_on : IsTask task → length (joined lines) ≡ key_bytes task → MayEnd (method_of task) (length front) piece →
      output task (joined lines) (front ++ piece) ≡ fed_output task (joined lines) front ++ next_output s piece true
  output-goes_on is long ends =
      messages_go_on.output_last task is (joined lines) front piece long whole ends
      ∙ ap (λ (bytes : List ℕ). fed_output task (joined lines) front ++ bytes) (sym (next_output-is task N lines front piece true s a b behind whole))

-- nothing was taken yet
pub so_far-none : (task : Task) (N : ℕ) (lines : List (List ℕ)) (s : Progress) (left out : Option (List ℕ)) (steps : ℕ) (a : Stand) → a.kept ≡ [] →
    Begins task (with_lines task lines) s → values_of (with_lines task lines) ≡ held_at_first task (joined lines) → SoFar task N lines [] s left left out out steps steps a a
so_far-none task N lines s left out steps a fresh begins key = record {
  taken = Consumes-nil left;
  written = rw (messages_go_on.no_output task (joined lines)) (Appends-nil out);
  whole = zero-mod (batch_length task);
  unended = ap (λ (p : Progress). p.ended) begins;
  counted = omega arith;
  behind = behind-none task N lines s a fresh begins key;
}

-- a batch more
pub so_far-more : (task : Task) (N : ℕ) (lines : List (List ℕ)) (front piece : List ℕ) (s s' : Progress) (left mid left' out on out' : Option (List ℕ)) (steps now steps' : ℕ) (a b c : Stand) → IsTask task →
    SoFar task N lines front s left mid out on steps now a b → Consumes mid left' piece → Evaluated N s s' piece false b c → HasTaken s s' piece false →
    length piece ≡ batch_length task → length (joined lines) ≡ key_bytes task → Appends on out' (next_output s piece false) → steps' ≡ now + gates_for s piece false →
    SoFar task N lines (front ++ piece) s' left left' out out' steps steps' a c
so_far-more task N lines front piece s s' left mid left' out on out' steps now steps' a b c is so_far taken evaluated took all long written more = record {
  taken = Consumes-trans left mid left' front piece so_far.taken taken;
  written = rw (fed_output-goes_on task N lines front piece s a b so_far.behind so_far.whole is long all)
      (Appends-trans out on out' (fed_output task (joined lines) front) (next_output s piece false) so_far.written written);
  whole = rw (length-append front piece) (batches-more task (length front) (length piece) so_far.whole all);
  unended = ap (λ (p : Progress). p.ended) took;
  counted = counted-fed task N lines front piece s a b so_far.behind so_far.whole all steps now steps' so_far.counted (omega arith);
  behind = rw (fed_steps-go_on task N lines front piece s a b so_far.behind so_far.whole all)
      (behind-more task N lines front piece false s a b so_far.behind so_far.whole s' c evaluated took);
}

-- a session that begins under the key of lines
pub has_key_of : (task : Task) (lines : List (List ℕ)) (s : Progress) → Begins task (with_lines task lines) s → line_length lines ≡ key_bytes task →
    values_of (with_lines task lines) ≡ held_at_first task (joined lines) → HasKeyOf lines s
has_key_of task lines s begins long key =
    let is : task ≡ s.task = sym (ap (λ (p : Progress). p.task) begins) in
    record {
      begins = subst (λ (t : Task). Begins t (with_lines t lines) s) is begins;
      long = subst (λ (t : Task). line_length lines ≡ key_bytes t) is long;
      key = subst (λ (t : Task). values_of (with_lines t lines) ≡ held_at_first t (joined lines)) is key;
    }
