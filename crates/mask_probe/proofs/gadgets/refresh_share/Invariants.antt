use Rattle.std.proofs.Common.{◌≡◌, length}
use Rattle.mask_circuit.specs.Ring.{bits}
use Rattle.mask_circuit.specs.Wires.{pairs, fresh_of, fresh_between}
use Rattle.mask_sni.specs.Asked.{bit_shares}
use Rattle.mask_sni.proofs.Sums.{sum_before}
use Rattle.mask_probe.specs.Sides.{bits_from}
use Rattle.mask_probe.proofs.gadgets.refresh_share.Given as goal

abbrev pub invariant-loop-k : goal.invariant-loop-k
invariant-loop-k g l = l.sum ≡ sum_before (bit_shares l.a l.i)
    (fresh_between (fresh_of bits (pairs g.row.N) (bits_from l.tape l.start (length (pairs g.row.N)))) l.i) l.i l.k
