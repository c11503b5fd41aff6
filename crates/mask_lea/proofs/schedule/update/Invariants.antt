use Rattle.std.proofs.Common.{[]}
use Rattle.mask_parts.proofs.Turns.{HasRun}
use Rattle.mask_lea.specs.Lea.{schedule}
use Rattle.mask_lea.specs.Rounds.{Stage, stage, with_word_updated}
use Rattle.mask_lea.proofs.schedule.update.Given as goal

abbrev pub invariant-loop-j : goal.invariant-loop-j
invariant-loop-j l = HasRun (λ (s : Stage). s.draft) (with_word_updated (schedule l.size) l.i) (stage l.fn.b l.zero l.one l.fn.key []) (stage l.b l.zero l.one l.key []) l.j
