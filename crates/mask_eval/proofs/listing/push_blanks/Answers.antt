use Rattle.std.proofs.Common.{◌≡◌, [], ◌∷◌, ◌++◌, length, ◌∙◌, arith}
use Rattle.std.proofs.lemmas.List.{take-append-le, length_push}
use Rattle.mask_eval.proofs.Lists.{added_more}
use Rattle.mask_eval.proofs.listing.push_blanks.Goals as goal

pub loop-preserved : goal.loop-preserved
loop-preserved c =
    let pushed : c.push.new.self.items ≡ c.loop.list.items ++ c.in_ok-seen.seen ∷ [] = c.in_ok-push.ensures.items in
    let count = length_push c.loop.list.items c.in_ok-seen.seen in
    record {
      front = rw pushed (take-append-le (length c.args.list.now.items) c.loop.list.items (c.in_ok-seen.seen ∷ []) c.loop.invariant.count ∙ c.loop.invariant.front);
      count = rw pushed (omega (arith, count, c.loop.invariant.count));
      added = added_more c.args.circuit.now c.args.order c.loop.counter c.args.list.now.items c.loop.list.items c.push.new.self.items c.in_ok-seen.seen
          c.loop.invariant.added c.in_ok-seen.ensures pushed;
    }
