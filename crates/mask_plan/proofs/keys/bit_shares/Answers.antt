use Rattle.std.proofs.Common.{ℕ, false, List, [], ap, ◌∙◌, arith}
use Rattle.std.specs.Prelude.{slice_index_or}
use Rattle.mask_bits.specs.Lanes.{lane}
use Rattle.mask_bits.specs.Reading.{bit}
use Rattle.mask_ciphers.specs.Tasks.{key_bits}
use Rattle.mask_plan.proofs.Bits.{map_same}
use Rattle.mask_plan.proofs.keys.bit_shares.Goals as goal

pub returns : goal.returns
returns g c =
    ap (lane 0) c.from_parts.ensures.value
    ∙ map_same (bit 0) (λ (line : List ℕ). slice_index_or (key_bits c.args.task.now line) c.args.j false) c.loop-i.parts c.args.key.now 0 [] (omega arith)
    (λ k lt. c.loop-i.invariant.done k (omega arith))
