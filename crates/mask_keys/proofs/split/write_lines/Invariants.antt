use Rattle.std.proofs.Common.{◌≡◌, drop}
use Rattle.mask_text.proofs.Sends.{Sent}
use Rattle.mask_keys.specs.Files.{key_file}
use Rattle.mask_keys.specs.Splitting.{split_lines}
use Rattle.mask_keys.proofs.split.write_lines.Given as goal

abbrev pub invariant-loop-k : goal.invariant-loop-k
invariant-loop-k g l = record {
  sent : Sent (g.O.Sink.written l.initial.sink) (g.O.Sink.written l.sink) (key_file (drop l.k (split_lines l.order l.key l.coins)))
      (key_file (split_lines l.order l.key l.coins));
  counts : g.O.Sink.faults l.sink ≡ g.O.Sink.faults l.initial.sink;
}
