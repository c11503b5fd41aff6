use Rattle.std.proofs.Common.{◌≡◌, ◌-◌, length, drop}
use Rattle.mask_gadget.proofs.refresh.copy_shares.Given as goal

abbrev pub invariant-loop-i : goal.invariant-loop-i
invariant-loop-i g l = record { count : length l.out ≡ g.row.N; copied : drop (g.row.N - l.i) l.out ≡ drop (g.row.N - l.i) l.x }
