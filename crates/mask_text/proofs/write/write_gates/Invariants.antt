use Rattle.std.proofs.Common.{◌≡◌, drop, map}
use Rattle.mask_circuit.specs.Text.{Makes, spelling}
use Rattle.mask_text.proofs.Sends.{Sent}
use Rattle.mask_text.proofs.write.write_gates.Given as goal

abbrev pub invariant-loop-gate : goal.invariant-loop-gate
invariant-loop-gate g l = record {
  sent : Sent (g.O.Sink.written l.initial.sink) (g.O.Sink.written l.sink) (spelling (map Makes (drop l.gate-index l.gates)))
      (spelling (map Makes l.gates));
  steady : g.O.Sink.faults l.sink ≡ g.O.Sink.faults l.initial.sink;
}
