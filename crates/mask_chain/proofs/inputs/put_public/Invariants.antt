use Rattle.std.proofs.Common.{◌≡◌, ◌+◌, ◌++◌, map, take}
use Rattle.mask_circuit.specs.Ring.{words}
use Rattle.mask_circuit.specs.Wires.{each, on_first}
use Rattle.mask_chain.proofs.inputs.put_public.Given as goal

abbrev pub invariant-loop-k : goal.invariant-loop-k
invariant-loop-k g l = take (l.start + l.k) l.places ≡ take l.start l.fn.places ++ map (λ w. each (on_first words w) g.row.N) (take l.k l.publics)
