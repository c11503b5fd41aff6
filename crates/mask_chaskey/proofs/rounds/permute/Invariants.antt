use Rattle.mask_parts.proofs.Turns.{HasRun}
use Rattle.mask_chaskey.specs.Rounds.{Stage, stage, with_round}
use Rattle.mask_chaskey.proofs.rounds.permute.Given as goal

abbrev pub invariant-loop-i : goal.invariant-loop-i
invariant-loop-i l = HasRun (λ (s : Stage). s.draft) (λ i. with_round) (stage l.fn.b l.block) (stage l.b l.state) l._i
