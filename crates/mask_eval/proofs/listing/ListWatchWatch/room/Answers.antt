use Rattle.std.proofs.Common.{sym, subst, arith}
use Rattle.mask_eval.specs.Listing.{Listed, AreBlanksFor}
use Rattle.mask_eval.proofs.Lists.{room_added}
use Rattle.mask_eval.proofs.listing.ListWatchWatch.room.Goals as goal

pub returns-clause-ready : goal.returns-clause-ready
returns-clause-ready c queue ready =
    room_added c.args.circuit.now c.args.order c.args.lanes queue c.self.inside.told c.self.inside.list.items c.add_blanks.new.list.items (omega arith)
    c.in_ok-add_blanks.ensures.added (subst (λ (w : Listed). AreBlanksFor queue w.blank) (sym c.self.view_is) ready)
