-- How many values a check visits.
use Rattle.std.specs.Prelude.{ℕ, ◌+◌, ◌*◌, ◌/◌}
use Rattle.mask_circuit.specs.Netlist.{Netlist, value_count, product_count}

-- each value once in search of products, and once more for each 64 products or fewer
abbrev pub most_steps : Netlist → ℕ
most_steps c = value_count c * (1 + (product_count c + 63) / 64)
