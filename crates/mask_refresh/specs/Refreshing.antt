-- The circuit that gives bits fresh shares: a refresh of each of n inputs, which are its outputs.
use Rattle.std.specs.Prelude.{ℕ, ◌+◌, Bool, List}
use Rattle.std.specs.List.{range_with_len}
use Rattle.mask_circuit.specs.Netlist.{Netlist, only_inputs}
use Rattle.mask_parts.specs.CipherCircuits.{Size}
use Rattle.mask_parts.specs.Fences.{with_fence}

unfoldable pub refreshing : ℕ → Netlist
refreshing n = with_fence (only_inputs n) (range_with_len 0 n)

abbrev pub refreshing_size : ℕ → Size
refreshing_size n = record { inputs = n; outputs = n; products = 0; refreshes = n; values = n + n }

-- its outputs are its inputs
abbrev pub same_bits : List Bool → List Bool
same_bits x = x
