use Rattle.mask_present.specs.Present.{register}
use Rattle.mask_present.specs.Rounds.{stage}
use Rattle.mask_present.proofs.Encrypting.{HasRun}
use Rattle.mask_present.proofs.rounds.rounds.Given as goal

abbrev pub invariant-loop-done : goal.invariant-loop-done
invariant-loop-done l = HasRun (register l.size) (stage l.fn.b l.fn.key l.fn.block) l.b l.key l.state l.done
