use Rattle.std.proofs.Common.{◌≡◌, ℕ, ◌+◌, ◌-◌, ◌*◌, List, get_or, take, drop, ap₂, ◌∙◌, arith}
use Rattle.mask_circuit.specs.Ring.{words}
use Rattle.mask_shares.specs.Sharing.{shared}
use Rattle.mask_eval.proofs.Shared.{shared_more}
use Rattle.mask_eval.proofs.sharing.share_words.Goals as goal

pub loop-k-preserved : goal.loop-k-preserved
loop-k-preserved g c =
    let step : (g.row.N - 1) * (c.loop-k.k + 1) ≡ (g.row.N - 1) * c.loop-k.k + (g.row.N - 1) = omega arith in
    record {
      spent = omega arith;
      same = c.share-shares.ensures.same ∙ c.loop-k.invariant.same;
      values =
          shared_more (g.row.N - 1) c.loop-k.k c.args.start c.args.coins.now.used c.args.plain.now c.args.coins.now.words c.loop-k.values
          (take c.args.start c.args.values.now) c.parts.result (omega arith) (omega arith) c.loop-k.invariant.values
          (c.parts.ensures.value
          ∙ c.share-shares.ensures.shares
          ∙ ap₂ (λ (n : ℕ) (ws : List ℕ). shared words (get_or c.args.plain.now c.loop-k.k 0) (take (g.row.N - 1) (drop n ws))) c.loop-k.invariant.spent
          c.loop-k.invariant.same);
    }
