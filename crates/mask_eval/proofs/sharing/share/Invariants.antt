use Rattle.std.proofs.Common.{◌≡◌, ◌+◌, ◌-◌, ◌∷◌, bit_xor, fold, length, take}
use Rattle.mask_tape.specs.Drawn.{ahead}
use Rattle.mask_eval.proofs.sharing.share.Given as goal

abbrev pub invariant-loop-i : goal.invariant-loop-i
invariant-loop-i g l = record {
  spent : l.coins.used ≡ l.initial.coins.used + (l.i - 1);
  same : l.coins.words ≡ l.initial.coins.words;
  first : l.first ≡ fold bit_xor l.word (ahead (l.i - 1) l.initial.coins);
  size : length l.parts ≡ g.row.N;
  parts : take l.i l.parts ≡ 0 ∷ ahead (l.i - 1) l.initial.coins;
}
