use Rattle.std.proofs.Common.{◌≡◌, ◌+◌, ◌-◌, ◌*◌, ◌++◌, take, drop}
use Rattle.mask_circuit.specs.Ring.{words}
use Rattle.mask_shares.specs.Sharing.{all_shared}
use Rattle.mask_eval.proofs.sharing.share_words.Given as goal

abbrev pub invariant-loop-k : goal.invariant-loop-k
invariant-loop-k g l = record {
  spent : l.coins.used ≡ l.initial.coins.used + (g.row.N - 1) * l.k;
  same : l.coins.words ≡ l.initial.coins.words;
  values : take (l.start + l.k) l.values
      ≡ take l.start l.fn.values ++ all_shared words (g.row.N - 1) (take l.k l.plain) (drop l.initial.coins.used l.initial.coins.words);
}
