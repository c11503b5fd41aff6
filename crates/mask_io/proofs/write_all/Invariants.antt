use Rattle.std.proofs.Common.{◌≡◌, [], length}
use Rattle.mask_io.proofs.Writing.{SoFar}
use Rattle.mask_io.proofs.write_all.Given as goal

-- a part of the piece was written, and an empty piece leaves the sink alone
abbrev pub invariant-loop-rest : goal.invariant-loop-rest
invariant-loop-rest g l = record {
  so_far : SoFar (g.O.Sink.written l.initial.sink) (g.O.Sink.written l.sink) l.fn.piece l.rest;
  steady : g.O.Sink.faults l.sink ≡ g.O.Sink.faults l.initial.sink;
  nothing : l.fn.piece ≡ [] → l.sink ≡ l.initial.sink;
}

abbrev pub decreases-loop-rest : goal.decreases-loop-rest
decreases-loop-rest g l = length l.rest
