use Rattle.std.proofs.Common.{◌≡◌, length, map, take}
use Rattle.mask_parts.specs.Words32.{word}
use Rattle.mask_lea.specs.Lea.{schedule, place}
use Rattle.mask_lea.proofs.schedule.round_key.Given as goal

abbrev pub invariant-loop-j : goal.invariant-loop-j
invariant-loop-j l = record {
  long : length l.words ≡ 6;
  so_far : take l.j l.words ≡ map (λ j. word l.key (place (schedule l.size) l.i j)) (take l.j l.taken);
}
