use Rattle.std.proofs.Common.{ℕ, ◌^◌, ◌<◌, get_or}
use Rattle.mask_bits.specs.Square.{IsExchanged}
use Rattle.mask_bits.proofs.square.exchange.Given as goal

abbrev pub invariant-loop-i : goal.invariant-loop-i
invariant-loop-i l = (k : ℕ) → k < l.i → IsExchanged (2 ^ l.digit) l.old k (get_or l.rows k 0)
