use Rattle.std.proofs.Common.{◌≡◌, [], length, take}
use Rattle.mask_trivium.specs.Clocks.{stream, stage}
use Rattle.mask_trivium.proofs.Calling.{HasRun}
use Rattle.mask_trivium.proofs.clocks.lay_stream.Given as goal

abbrev pub invariant-loop-k : goal.invariant-loop-k
invariant-loop-k l = record {
  long : length l.outputs ≡ 64;
  run : HasRun stream 64 (stage l.fn.b l.fn.state []) (stage l.b l.state (take l.k l.outputs)) l.k;
}
