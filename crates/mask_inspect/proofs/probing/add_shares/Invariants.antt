use Rattle.std.proofs.Common.{◌≡◌, ◌++◌}
use Rattle.mask_sni.specs.Asked.{members}
use Rattle.mask_probe.specs.Asking.{has_share}
use Rattle.mask_inspect.proofs.Reports.{numbers, is_nil}
use Rattle.mask_inspect.proofs.probing.add_shares.Given as goal

abbrev pub invariant-loop-share : goal.invariant-loop-share
invariant-loop-share l = record {
  first : l.is_first ≡ is_nil (members l.share (has_share l.needs l.input));
  text : l.report.items ≡ l.initial.report.items ++ numbers (members l.share (has_share l.needs l.input));
}
