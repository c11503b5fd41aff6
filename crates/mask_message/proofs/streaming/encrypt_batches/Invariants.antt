use Rattle.std.proofs.Common.{◌≡◌, ℕ, ◌-◌, false, None, List, []}
use Rattle.mask_tasks.specs.Tasks.{longest_message}
use Rattle.mask_trace.specs.Drawing.{stand}
use Rattle.mask_message.specs.Sessions.{HasKeyOf}
use Rattle.mask_message.proofs.Growing.{SoFar}
use Rattle.mask_message.proofs.streaming.encrypt_batches.Given as goal

-- Whole batches were taken, encrypted, written and counted, and nothing failed.
abbrev pub invariant-batches : goal.invariant-batches
invariant-batches g l = record {
  so_far : (lines : List (List ℕ)) → HasKeyOf lines l.fn.session →
      (front : List ℕ) × SoFar l.fn.session.task g.row.N lines front l.session (g.S.Source.left l.fn.input) (g.S.Source.left l.input)
      (g.O.Sink.written l.fn.out) (g.O.Sink.written l.out) l.fn.steps l.steps
      (stand [] (g.E.Entropy.left l.fn.entropy) (g.W.Watch.told l.fn.watch)) (stand l.tape (g.E.Entropy.left l.entropy) (g.W.Watch.told l.watch));
  task_is : l.session.task ≡ l.fn.session.task;
  unclosed : l.session.closed ≡ None;
  unended : l.session.ended ≡ false;
  input_faults : g.S.Source.faults l.input ≡ g.S.Source.faults l.fn.input;
  tape_faults : g.E.Entropy.faults l.entropy ≡ g.E.Entropy.faults l.fn.entropy;
  out_faults : g.O.Sink.faults l.out ≡ g.O.Sink.faults l.fn.out;
}

abbrev pub decreases-batches : goal.decreases-batches
decreases-batches g l = longest_message l.fn.session.task - l.session.fed
