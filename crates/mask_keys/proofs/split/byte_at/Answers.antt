use Rattle.std.proofs.Common.{◌≡◌, ◌+◌, ◌*◌, ◌%◌, ◌^◌, ◌<◌, take, arith, ap, ◌∙◌}
use Rattle.mask_bits.specs.Reading.{bit, lowest, number}
use Rattle.mask_keys.specs.Splitting.{shares_at}
use Rattle.mask_keys.proofs.Sharing.{byte_grows, byte_done, coins_left, coins_next}
use Rattle.mask_keys.proofs.split.byte_at.Goals as goal

pub split_at-requires : goal.split_at-requires
split_at-requires c = coins_left 8 c.args.order c.loop-place.place c.args.coins.now c.loop-place.rest.now (omega arith) c.requires.coins c.loop-place.invariant.rest

-- the byte after the next bit
grows : (c : goal.After-from-in-loop-place)
    → (c.loop-place.shares + c.from-in-loop-place.result * 2 ^ c.loop-place.place % 256
    ≡ number (take (c.loop-place.place + 1) (shares_at c.args.order c.args.k (lowest 8 c.args.byte) c.args.coins.now)))
    × (number (take (c.loop-place.place + 1) (shares_at c.args.order c.args.k (lowest 8 c.args.byte) c.args.coins.now)) < 256)
grows c =
    byte_grows c.args.order c.args.k c.args.byte c.loop-place.place c.loop-place.shares c.from-in-loop-place.result c.args.coins.now
    c.split_at.result.0.now c.bit_of.result c.share_at.result (omega arith)
    (c.split_at.ensures.front ∙ ap (take c.args.order) c.loop-place.invariant.rest)
    (c.bit_of.ensures ∙ ap (bit c.loop-place.place) c.from.ensures) c.share_at.ensures c.from-in-loop-place.ensures c.loop-place.invariant.done

pub overflow_add-shares : goal.overflow_add-shares
overflow_add-shares c = let next = grows c in omega (arith, next.0, next.1)

pub loop-place-preserved : goal.loop-place-preserved
loop-place-preserved c = record {
  rest = c.split_at.ensures.back ∙ coins_next c.args.order c.loop-place.place c.args.coins.now c.loop-place.rest.now c.loop-place.invariant.rest;
  done = (grows c).0;
}

pub returns : goal.returns
returns c = byte_done c.args.order c.args.k c.args.byte c.loop-place.place c.loop-place.shares c.args.coins.now (omega arith) c.loop-place.invariant.done
