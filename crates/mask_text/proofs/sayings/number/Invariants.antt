use Rattle.std.proofs.Common.{◌≡◌, ◌<◌, ◌^◌, drop}
use Rattle.mask_text.specs.Sayings.{value_behind}
use Rattle.mask_text.proofs.sayings.number.Given as goal

-- The digits so far write the value, which has no more digits than they are.
abbrev pub invariant-loop-digit : goal.invariant-loop-digit
invariant-loop-digit l = record {
  small : l.value < 10 ^ l.digit-index;
  same : value_behind l.value (drop l.digit-index l.word) ≡ value_behind 0 l.word;
}
