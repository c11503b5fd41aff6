use Rattle.std.proofs.Common.{◌≡◌, ℕ, eqb, false, take}
use Rattle.std.specs.List.{All}
use Rattle.mask_text.proofs.lines.cut.Given as goal

-- no byte so far is the separator
abbrev pub invariant-loop-index : goal.invariant-loop-index
invariant-loop-index l = All (λ (b : ℕ). eqb b l.separator ≡ false) (take l.index l.bytes)
