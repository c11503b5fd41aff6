use Rattle.std.proofs.Common.{length, ap, ◌∙◌, arith}
use Rattle.mask_bits.specs.Lanes.{lane}
use Rattle.std.proofs.lemmas.List.{drop-set-lt}
use Rattle.mask_counter.proofs.Lanes.{lanes_more}
use Rattle.mask_counter.proofs.shares.put_in_all_lanes.Goals as goal

pub loop-k-preserved : goal.loop-k-preserved
loop-k-preserved g c = record {
  lanes = λ m lt. lanes_more m c.loop-k.k c.args.shares.now c.loop-k.inputs _ c.index-shares-k.result (omega arith) (omega arith) (c.loop-k.invariant.lanes m lt) (c.in_all_lanes.ensures m lt ∙ ap (lane 0) c.index-shares-k.is);
  rest = drop-set-lt (length c.args.shares.now) c.loop-k.inputs c.loop-k.k _ (omega arith) ∙ c.loop-k.invariant.rest;
}
