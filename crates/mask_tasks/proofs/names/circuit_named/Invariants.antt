use Rattle.std.proofs.Common.{◌≡◌, ℕ, ◌<◌}
use Rattle.mask_tasks.specs.Names.{name_text}
use Rattle.mask_tasks.proofs.Distinct.{name_at}
use Rattle.mask_tasks.proofs.names.circuit_named.Given as goal

-- none of the names so far is the word
abbrev pub invariant-loop-name : goal.invariant-loop-name
invariant-loop-name l = (k : ℕ) → k < l.name-index → l.word ≡ name_text (name_at k) → ⊥
