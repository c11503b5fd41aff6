-- The fence at the outputs: each value that is handed out gets fresh shares first, which nothing else takes.
use Rattle.std.specs.Prelude.{ℕ, List, length, map}
use Rattle.std.specs.List.{range_with_len}
use Rattle.mask_circuit.specs.declared.gates.Gate.TheVariants.{Ref}
use Rattle.mask_circuit.specs.Netlist.{Netlist, value_count}
use Rattle.mask_parts.specs.Drafts.{with_gates, with_outputs}

-- a refresh of each of the values us in order, and then an output for each refresh in order
unfoldable pub with_fence : Netlist → List ℕ → Netlist
with_fence c us = with_outputs (with_gates c (map Ref us)) (range_with_len (value_count c) (length us))
