use Rattle.std.proofs.Common.{◌≡◌, drop, map}
use Rattle.mask_circuit.specs.Text.{Input, spelling}
use Rattle.mask_text.proofs.Sends.{Sent}
use Rattle.mask_text.proofs.write.write_input_groups.Given as goal

abbrev pub invariant-loop-group : goal.invariant-loop-group
invariant-loop-group g l = record {
  sent : Sent (g.O.Sink.written l.initial.sink) (g.O.Sink.written l.sink)
      (spelling (map (λ g. Input g.name g.size) (drop l.group-index l.groups))) (spelling (map (λ g. Input g.name g.size) l.groups));
  steady : g.O.Sink.faults l.sink ≡ g.O.Sink.faults l.initial.sink;
}
