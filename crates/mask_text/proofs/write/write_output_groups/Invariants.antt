use Rattle.std.proofs.Common.{◌≡◌, ◌≤◌, drop, length}
use Rattle.mask_circuit.specs.Labels.{sizes}
use Rattle.mask_circuit.specs.Text.{output_lines, spelling}
use Rattle.mask_text.proofs.Sends.{Sent}
use Rattle.mask_text.proofs.write.write_output_groups.Given as goal

abbrev pub invariant-loop-group : goal.invariant-loop-group
invariant-loop-group g l = record {
  sent : Sent (g.O.Sink.written l.initial.sink) (g.O.Sink.written l.sink) (spelling (output_lines (drop l.group-index l.groups) l.rest))
      (spelling (output_lines l.groups l.fn.outputs));
  enough : sizes (drop l.group-index l.groups) ≤ length l.rest;
  steady : g.O.Sink.faults l.sink ≡ g.O.Sink.faults l.initial.sink;
}
