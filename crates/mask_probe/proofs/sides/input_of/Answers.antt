use Rattle.std.proofs.Common.{arith}
use Rattle.mask_probe.specs.Sides.{input_shares}
use Rattle.mask_probe.proofs.Packing.{number_more, number_bit}
use Rattle.mask_probe.proofs.sides.input_of.Goals as goal

pub loop-i-preserved : goal.loop-i-preserved
loop-i-preserved g c = record {
  bits = number_more (input_shares g.row.N c.args.bits.now c.args.value) c.loop-i.i c.loop-i.shares c.append_share-shares.result c.get.result c.loop-i.invariant.bits
      c.get.ensures c.append_share-shares.ensures.value;
  small = c.append_share-shares.ensures.below;
}

pub returns : goal.returns
returns g c = λ i lt. number_bit (input_shares g.row.N c.args.bits.now c.args.value) g.row.N c.loop-i.i c.loop-i.shares i c.loop-i.invariant.bits (omega arith) lt
