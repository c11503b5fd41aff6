use Rattle.std.proofs.Common.{◌≡◌, ◌+◌, ◌++◌, length, take, get_or, ap, sym, ◌∙◌, arith, append_assoc, length-append}
use Rattle.mask_chain.specs.Evaluations.{all_laid, laid}
use Rattle.mask_chain.specs.declared.evaluations.Source.TheVariants.{Key}
use Rattle.mask_chain.proofs.Laid.{all_laid-more, ends_within}
use Rattle.mask_chain.proofs.inputs.lay.Goals as goal

pub lay_one-at-requires : goal.lay_one-at-requires
lay_one-at-requires g c =
    let within = ends_within g.row.N c.args.key.now c.args.state.now c.args.sources.now c.loop-source.source-index (Key 0 0) (omega arith) in
    (omega arith, (c.requires.some, (c.requires.few, (c.requires.there c.loop-source.source-index _ (omega arith), omega arith))))

pub loop-source-preserved : goal.loop-source-preserved
loop-source-preserved g c =
    let front = all_laid g.row.N c.args.key.now c.args.state.now (take c.loop-source.source-index c.args.sources.now) in
    let more = all_laid-more g.row.N c.args.key.now c.args.state.now c.args.sources.now c.loop-source.source-index (Key 0 0) (omega arith) in
    let next = laid g.row.N c.args.key.now c.args.state.now (get_or c.args.sources.now c.loop-source.source-index (Key 0 0)) in
    let ends : c.lay_one-at.result ≡ c.loop-source.at + length next = c.lay_one-at.ensures.end in
    let long = ap length more ∙ length-append front next in
    record {
      end = omega arith;
      laid = c.lay_one-at.ensures.laid ∙ ap (λ l. l ++ next) c.loop-source.invariant.laid ∙ append_assoc (take c.args.start c.args.inputs.now) front next
          ∙ ap (λ l. take c.args.start c.args.inputs.now ++ l) (sym more);
    }
