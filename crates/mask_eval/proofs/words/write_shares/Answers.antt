use Rattle.std.proofs.Common.{[], arith, ◌∙◌}
use Rattle.std.proofs.lemmas.List.{get_or_read}
use Rattle.mask_eval.proofs.Lists.{concat_more}
use Rattle.mask_eval.proofs.words.write_shares.Goals as goal

pub loop-k-preserved : goal.loop-k-preserved
loop-k-preserved g c =
    let value = get_or_read c.args.values.now c.loop-k.k c.index-values-k.result (omega arith) c.index-values-k.is [] in
    concat_more g.row.N c.loop-k.k c.args.values.now c.parts.result c.loop-k.words c.write_value.new.words (omega arith) (c.parts.ensures.value ∙ value)
    c.loop-k.invariant c.write_value.ensures.words
