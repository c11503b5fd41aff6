use Rattle.std.proofs.Common.{◌≡◌, ℕ, List, [], length, take, All, ap, sym, subst, ◌∙◌, arith}
use Rattle.std.proofs.lemmas.List.Elements.{All-push}
use Rattle.std.proofs.lemmas.List.{take_more, get_or_read}
use Rattle.mask_eval.proofs.Lists.{concat_more}
use Rattle.mask_eval.proofs.words.write_values.Goals as goal

pub loop-k-preserved : goal.loop-k-preserved
loop-k-preserved g c =
    let value = get_or_read c.args.values.now c.loop-k.k c.index-values-k.result (omega arith) c.index-values-k.is [] in
    record {
      words = concat_more g.row.N c.loop-k.k c.args.values.now _ c.loop-k.words c.write_value.new.words (omega arith) value c.loop-k.invariant.words c.write_value.ensures.words;
      counts = subst (λ (vs : List (List ℕ)). All (λ v. length v ≡ g.row.N) vs) (sym (take_more c.args.values.now c.loop-k.k [] (omega arith)))
          (All-push (λ v. length v ≡ g.row.N) (take c.loop-k.k c.args.values.now) _ c.loop-k.invariant.counts (sym (ap length value) ∙ c.write_value.ensures.count));
    }
