use Rattle.std.proofs.Common.{◌≡◌, ◌≤◌, length, take}
use Rattle.mask_eval.specs.Listing.{Added}
use Rattle.mask_eval.proofs.listing.push_blanks.Given as goal

abbrev pub invariant-loop : goal.invariant-loop
invariant-loop l = record {
  front : take (length l.fn.list.items) l.list.items ≡ l.fn.list.items;
  count : length l.fn.list.items ≤ length l.list.items;
  added : Added l.circuit l.order l.counter l.fn.list.items l.list.items;
}
