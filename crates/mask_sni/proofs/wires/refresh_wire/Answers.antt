use Rattle.std.proofs.Common.{arith, ◌∙◌}
use Rattle.mask_sni.proofs.Numbers.{refresh_count, refresh_fresh_at, lower_at, higher_at}
use Rattle.mask_sni.proofs.wires.refresh_wire.Goals as goal

pub local_pair-i-requires-clause-known : goal.local_pair-i-requires-clause-known
local_pair-i-requires-clause-known c = let count = refresh_count c.args.n in omega (arith, c.requires.known)

pub returns-in-0 : goal.returns-in-0
returns-in-0 c = refresh_fresh_at c.args.n c.args.number _ _ c.local_pair-i.ensures.pair (omega (arith, c.local_pair-i.ensures.number))

pub returns-in-1 : goal.returns-in-1
returns-in-1 c = c.row_wire.ensures ∙ lower_at c.args.n c.args.number _ _ c.local_pair-i.ensures.pair (omega (arith, c.local_pair-i.ensures.number))

pub returns-in_default : goal.returns-in_default
returns-in_default c = c.row_wire-in_default.ensures ∙ higher_at c.args.n c.args.number _ _ c.local_pair-i.ensures.pair (omega (arith, c.local_pair-i.ensures.number))
