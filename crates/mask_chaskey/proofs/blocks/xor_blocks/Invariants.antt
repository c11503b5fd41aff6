use Rattle.mask_parts.proofs.Turns.{HasRun}
use Rattle.mask_chaskey.specs.Rounds.{Stage, stage, with_word_xored}
use Rattle.mask_chaskey.proofs.blocks.xor_blocks.Given as goal

abbrev pub invariant-loop-k : goal.invariant-loop-k
invariant-loop-k l = HasRun (λ (s : Stage). s.draft) (with_word_xored l.ys) (stage l.fn.b l.xs) (stage l.b l.xored) l.k
