use Rattle.std.proofs.Common.{◌≡◌, ℕ, ◌-◌, ◌<◌, ◌≤◌, false, None, Option, List, [], length, take}
use Rattle.std.specs.Io.KnownBytes.{Consumes, IsAtEnd}
use Rattle.mask_tasks.specs.Tasks.{longest_message}
use Rattle.mask_trace.specs.Drawing.{stand}
use Rattle.mask_plan.specs.Sessions.{batch_length}
use Rattle.mask_message.specs.Sessions.{HasKeyOf}
use Rattle.mask_message.proofs.Growing.{SoFar}
use Rattle.mask_message.proofs.tagging.tag_message.Given as goal

-- Whole pieces were taken and counted, and nothing failed. The next piece was read, and has some bytes behind others.
abbrev pub invariant-pieces : goal.invariant-pieces
invariant-pieces g l = record {
  so_far : (lines : List (List ℕ)) → HasKeyOf lines l.fn.session →
      (front : List ℕ) × (left : Option (List ℕ)) × SoFar l.fn.session.task g.row.N lines front l.session (g.S.Source.left l.fn.input) left
      (g.O.Sink.written l.fn.out) (g.O.Sink.written l.out) l.fn.steps l.steps
      (stand [] (g.E.Entropy.left l.fn.entropy) (g.W.Watch.told l.fn.watch)) (stand l.tape (g.E.Entropy.left l.entropy) (g.W.Watch.told l.watch))
      × Consumes left (g.S.Source.left l.input) (take l.count l.piece);
  task_is : l.session.task ≡ l.fn.session.task;
  unclosed : l.session.closed ≡ None;
  unended : l.session.ended ≡ false;
  below : l.session.fed < longest_message l.fn.session.task;
  piece_long : length l.piece ≡ batch_length l.fn.session.task;
  next_long : length l.next ≡ batch_length l.fn.session.task;
  bound : l.count ≤ batch_length l.fn.session.task;
  some_came : 0 < l.session.fed → 0 < l.count;
  at_end : l.count < batch_length l.fn.session.task → IsAtEnd (g.S.Source.left l.input);
  input_faults : g.S.Source.faults l.input ≡ g.S.Source.faults l.fn.input;
  tape_faults : g.E.Entropy.faults l.entropy ≡ g.E.Entropy.faults l.fn.entropy;
  out_faults : g.O.Sink.faults l.out ≡ g.O.Sink.faults l.fn.out;
}

abbrev pub decreases-pieces : goal.decreases-pieces
decreases-pieces g l = longest_message l.fn.session.task - l.session.fed
