-- What ran on a beginning of a message ran on the message.
use Rattle.std.proofs.Common.{◌≡◌, ℕ, zero, suc, ◌+◌, ◌*◌, ◌<◌, ◌≤◌, Bool, true, List, [], ◌∷◌, ◌++◌, length, take, refl, ap, sym, ◌∙◌, subst, arith, length-append}
use Rattle.std.proofs.lemmas.List.{append_assoc, length-take, length-take-le, take-append-le}
use Rattle.mask_bits.specs.Reading.{low}
use Rattle.mask_tasks.specs.declared.tasks.Task.{Task}
use Rattle.mask_tasks.specs.Tasks.{IsTask}
use Rattle.mask_eval.specs.Watching.{told_more}
use Rattle.mask_trace.specs.Steps.{Registers, Step, bits_of}
use Rattle.mask_trace.specs.Traces.{BitShares, after, trace}
use Rattle.mask_trace.specs.Drawing.{Drew, Ran}
use Rattle.mask_trace.proofs.Drawing.{runs_join}
use Rattle.mask_ciphers.specs.Methods.{AreBatches, IsCipher, fed_steps, next_steps}
use Rattle.mask_ciphers.specs.Tasks.{method_of, plan, with_lines}
use Rattle.mask_ciphers.proofs.Breaking.{runs_are_private}
use Rattle.mask_ciphers.proofs.Writing.{ciphers_go_on, messages_go_on}
use Rattle.mask_message.specs.Outside.{Outside}
use Rattle.mask_message.specs.Encrypting.{RanSteps, at_first, at_last, due_behind}

-- THE SAME STEPS

-- those of whole batches are the first of every message that begins with them
module _ (task : Task) (cipher : IsCipher (method_of task)) (front : List ℕ) (whole : AreBatches (method_of task) (length front)) where
  plan-more : (rest : List ℕ) → plan task (front ++ rest) ≡ fed_steps (method_of task) front ++ next_steps (method_of task) (length front) rest true
  plan-more rest = messages_go_on.steps_last task front rest whole (ciphers_go_on.ends task cipher (length front) rest)

  pub same-whole : (rest : List ℕ) (count : ℕ) → count ≤ length (fed_steps (method_of task) front) →
      take count (fed_steps (method_of task) front) ≡ take count (plan task (front ++ rest))
  same-whole rest count few = sym (ap (take count) (plan-more rest) ∙ take-append-le count (fed_steps (method_of task) front) _ few)

  pub same-plan : (rest : List ℕ) (count : ℕ) → count ≤ length (plan task front) → take count (plan task front) ≡ take count (plan task (front ++ rest))
  same-plan rest count few =
      let are = ciphers_go_on.steps task cipher front in
      ap (take count) (sym are) ∙ same-whole rest count (omega (arith, ap length are))

  -- behind whole batches the steps of some bytes begin with those that are due
  due-first : (more : List ℕ) → 1 ≤ length more →
      (later : List Step) × (plan task (front ++ more) ≡ (fed_steps (method_of task) front ++ due_behind task front) ++ later)
  due-first more some =
      let steps = fed_steps (method_of task) front in
      let due = ciphers_go_on.begins task (length front) more true (λ is. some) in (
        due.0,
        plan-more more ∙ ap (λ (next : List Step). steps ++ next) due.1 ∙ sym (append_assoc steps (due_behind task front) due.0),
      )

  -- so these first steps are the same, whatever the bytes
  pub same-due : (more rest : List ℕ) (count : ℕ) → 1 ≤ length more → count ≤ length (fed_steps (method_of task) front) + length (due_behind task front) →
      take count (plan task (front ++ more)) ≡ take count (plan task (front ++ more ++ rest))
  same-due more rest count some few =
      let common = fed_steps (method_of task) front ++ due_behind task front in
      let size : count ≤ length common = omega (arith, length-append (fed_steps (method_of task) front) (due_behind task front)) in
      let first : (later : List Step) → take count (common ++ later) ≡ take count common = λ later. take-append-le count common later size in
      let here = due-first more some in
      let there = due-first (more ++ rest) (omega (arith, length-append more rest)) in
      ap (take count) here.1
      ∙ first here.0
      ∙ sym (ap (take count) (ap (plan task) (append_assoc front more rest) ∙ there.1) ∙ first there.0)

-- THE SAME RUN

-- nothing ran yet
pub nothing-ran : (task : Task) (N : ℕ) (lines : List (List ℕ)) (message : List ℕ) (o : Outside) → 2 ≤ N → IsTask task → at_last [] o ≡ at_first o → RanSteps task N lines message 0 o
nothing-ran task N lines message o some is idle =
    let held : Registers BitShares = with_lines task lines in
    record {
      kept = [];
      part = record {
        within = omega arith;
        now = held;
        ran = subst (Ran N held [] held (at_first o)) (sym idle) (runs_join.none N held (at_first o) (omega arith));
      };
      private = runs_are_private N task is message 0 some;
    }

module _ (task : Task) (N : ℕ) (lines : List (List ℕ)) (bytes message : List ℕ) (count : ℕ) (o : Outside) (some : 2 ≤ N) (is : IsTask task) (ran : RanSteps task N lines bytes count o) where
  pub no-more : take count (plan task bytes) ≡ take count (plan task message) → count ≤ length (plan task message)
  no-more same = omega (arith, ap length same, length-take-le count (plan task bytes) ran.part.within, length-take count (plan task message))

  -- the first steps of another message are the same
  abbrev pub carried : take count (plan task bytes) ≡ take count (plan task message) → RanSteps task N lines message count o
  carried same =
      let r = ran.part.ran in
      let a = at_first o in
      let b = at_last ran.kept o in
      let held : Registers BitShares = with_lines task lines in
      record {
        kept = ran.kept;
        part = record {
          within = no-more same;
          now = ran.part.now;
          ran = record {
            fresh = r.fresh;
            drew = subst (λ (steps : List Step). Drew (bits_of N steps) r.fresh a b) same r.drew;
            tells = subst (λ (steps : List Step). b.told ≡ told_more a.told (trace N held steps (a.kept ++ low r.fresh))) same r.tells;
            holds = subst (λ (steps : List Step). ran.part.now ≡ after N held steps (a.kept ++ low r.fresh)) same r.holds;
          };
        };
        private = runs_are_private N task is message count some;
      }
