use Rattle.mask_parts.proofs.Turns.{HasRun}
use Rattle.mask_lea.specs.Lea.{schedule}
use Rattle.mask_lea.specs.Rounds.{Stage, stage, with_round}
use Rattle.mask_lea.proofs.rounds.encrypt.Given as goal

abbrev pub invariant-loop-i : goal.invariant-loop-i
invariant-loop-i l = HasRun (λ (s : Stage). s.draft) (with_round (schedule l.size)) (stage l.fn.b l.zero l.one l.fn.key l.block) (stage l.b l.zero l.one l.key l.state) l.i
