use Rattle.std.proofs.Common.{arith}
use Rattle.mask_shares.proofs.Lanes.{lane_by_bits}
use Rattle.mask_shares.proofs.Shares.in_all_lanes.Goals as goal

pub returns : goal.returns
returns g c = λ l lt.
    lane_by_bits l c.loop-i.words c.args.self.now c.loop-i.invariant.count (λ k hk. c.loop-i.invariant.done l k lt (omega (arith, c.parts-words.ensures.count)))
