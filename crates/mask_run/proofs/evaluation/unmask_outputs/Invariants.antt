use Rattle.std.proofs.Common.{◌≡◌, length, take, map}
use Rattle.mask_run.specs.Lanes.{first_bit}
use Rattle.mask_run.proofs.evaluation.unmask_outputs.Given as goal

abbrev pub invariant-loop-k : goal.invariant-loop-k
invariant-loop-k g l = record {
  size : length l.outputs ≡ length l.initial.outputs;
  values : take l.k l.outputs ≡ map first_bit (take l.k l.shares);
}
