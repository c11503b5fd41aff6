use Rattle.std.proofs.Common.{◌≡◌, ◌+◌, length, sym, ap, ◌∙◌, arith}
use Rattle.std.proofs.lemmas.Grind.{common_steps}
use Rattle.std.proofs.lemmas.List.{drop-set-lt}
use Rattle.std.proofs.lemmas.List.Elements.{All-more}
use Rattle.mask_chain.proofs.inputs.put.Goals as goal

pub loop-k-preserved : goal.loop-k-preserved
loop-k-preserved g c = record {
  front = grind (arith, common_steps);
  rest = drop-set-lt (c.args.start + length c.args.shares.now) c.loop-k.places (c.args.start + c.loop-k.k) _ (omega arith) ∙ c.loop-k.invariant.rest;
  counts = All-more (λ s. length s ≡ g.row.N) c.args.shares.now c.loop-k.k c.index-shares-k.result (omega arith) c.loop-k.invariant.counts
      (sym (ap length c.index-shares-k.is) ∙ c.count-count.ensures.length);
}
