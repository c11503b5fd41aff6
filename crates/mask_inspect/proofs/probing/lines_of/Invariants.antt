use Rattle.std.proofs.Common.{◌≡◌}
use Rattle.mask_circuit.specs.Wires.{joined}
use Rattle.mask_probe.specs.Asking.{has_share}
use Rattle.mask_inspect.specs.Probing.{need_line}
use Rattle.mask_inspect.proofs.probing.lines_of.Given as goal

abbrev pub invariant-loop-input : goal.invariant-loop-input
invariant-loop-input l = l.report.items ≡ joined (λ v. need_line l.shares (has_share l.needs v) v) l.input
