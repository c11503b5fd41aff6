use Rattle.std.proofs.Common.{Bool, arith}
use Rattle.mask_circuit.specs.Wires.{Pair}
use Rattle.mask_circuit.proofs.PairNumbers.{small}
use Rattle.mask_sni.specs.Asked.{in_places}
use Rattle.mask_sni.specs.Kinds.{mask_of}
use Rattle.mask_sni.proofs.Masks.{mask_more, mask_all, small_more, small_power}
use Rattle.mask_sni.proofs.shifts.mask_of.Goals as goal

pub overflow_add-mask : goal.overflow_add-mask
overflow_add-mask c =
    let few = small c.args.n c.requires.most in
    let pairs = few.pairs in
    let power = small_power c.loop-p.p (omega arith) in
    omega (arith, c.pair_bit-mask.ensures.small)

pub loop-p-preserved : goal.loop-p-preserved
loop-p-preserved c =
    let f : Pair → Bool = λ p. mask_of c.args.operands c.args.n c.args.wires.now (in_places c.args.outputs.now.items) p.0 p.1 in
    record {
      bits = mask_more f c.args.n _ _ c.loop-p.p c.loop-p.mask c.pair_bit-mask.result _ c.local_pair-i.ensures.pair c.local_pair-i.ensures.number c.loop-p.invariant.bits
          c.pair_bit-mask.ensures.bit c.is_flipped.ensures;
      small = small_more c.loop-p.p c.loop-p.mask c.pair_bit-mask.result c.loop-p.invariant.small c.pair_bit-mask.ensures.small;
    }

pub returns : goal.returns
returns c =
    let f : Pair → Bool = λ p. mask_of c.args.operands c.args.n c.args.wires.now (in_places c.args.outputs.now.items) p.0 p.1 in
    mask_all f c.args.n c.loop-p.p c.loop-p.mask (omega arith) c.loop-p.invariant.bits
