use Rattle.std.proofs.Common.{◌≡◌, ◌-◌, ◌≤◌, length, take}
use Rattle.std.specs.Io.KnownBytes.{Consumes}
use Rattle.mask_io.proofs.read_full.Given as goal

-- The front of the buffer is what was taken.
abbrev pub invariant-loop-came : goal.invariant-loop-came
invariant-loop-came g l = record {
  bound : l.came ≤ length l.buf;
  taken : Consumes (g.S.Source.left l.initial.source) (g.S.Source.left l.source) (take l.came l.buf);
  counts : g.S.Source.faults l.source ≡ g.S.Source.faults l.initial.source;
}

abbrev pub decreases-loop-came : goal.decreases-loop-came
decreases-loop-came g l = length l.initial.buf - l.came
