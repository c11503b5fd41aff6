use Rattle.std.proofs.Common.{[]}
use Rattle.mask_trivium.specs.Clocks.{setup, stage}
use Rattle.mask_trivium.proofs.Calling.{HasRun}
use Rattle.mask_trivium.proofs.clocks.lay_setup.Given as goal

abbrev pub invariant-loop-clock : goal.invariant-loop-clock
invariant-loop-clock l = HasRun setup 1152 (stage l.fn.b l.fn.state []) (stage l.b l.state []) l._clock
