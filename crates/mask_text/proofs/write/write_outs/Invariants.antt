use Rattle.std.proofs.Common.{◌≡◌, drop, map}
use Rattle.mask_circuit.specs.Text.{Out, spelling}
use Rattle.mask_text.proofs.Sends.{Sent}
use Rattle.mask_text.proofs.write.write_outs.Given as goal

abbrev pub invariant-loop-value : goal.invariant-loop-value
invariant-loop-value g l = record {
  sent : Sent (g.O.Sink.written l.initial.sink) (g.O.Sink.written l.sink) (spelling (map Out (drop l.value-index l.outputs)))
      (spelling (map Out l.outputs));
  steady : g.O.Sink.faults l.sink ≡ g.O.Sink.faults l.initial.sink;
}
