-- The circuits of Trivium.
use Rattle.std.specs.Prelude.{Bool, List, [], ◌∷◌, ◌++◌, take, drop}
use Rattle.std.specs.List.{range_with_len}
use Rattle.mask_circuit.specs.declared.gates.Gate.TheVariants.{Zero, One}
use Rattle.mask_circuit.specs.Netlist.{Netlist, value_count, only_inputs}
use Rattle.mask_parts.specs.CipherCircuits.{Size}
use Rattle.mask_parts.specs.Drafts.{with_gates}
use Rattle.mask_parts.specs.Fences.{with_fence}
use Rattle.mask_parts.specs.Rows.{xor_gates, xor_bits}
use Rattle.mask_trivium.specs.Clocks.{Stage, stage, setup, stream, with_clocks}
use Rattle.mask_trivium.specs.Trivium.{loaded, started, clocks, outputs}

-- THE START

-- The inputs: the key, then the IV. The first two gates make the bits 0 and 1.
unfoldable pub start : Stage
start = stage (with_gates (only_inputs 160) (Zero ∷ One ∷ [])) (loaded 160 161 (range_with_len 0 80) (range_with_len 80 80)) []

-- the clocks without output
unfoldable pub set_up : Stage
set_up = with_clocks setup 1152 start

-- trivium-start: the state after them behind a fence
unfoldable pub named_start : Netlist
named_start = with_fence set_up.draft set_up.state

-- how many inputs, outputs, products, refreshes and values it has
abbrev pub size_start : Size
size_start = record { inputs = 160; outputs = 288; products = 3456; refreshes = 3744; values = 17_730 }

-- what it computes of its input bits: the state of the key and the IV after the clocks without output
unfoldable pub start_of_bits : List Bool → List Bool
start_of_bits x = started (take 80 x) (drop 80 x)

-- A STEP

-- the inputs: the state, then the message
unfoldable pub given : Stage
given = stage (only_inputs 352) (range_with_len 0 288) []

-- 64 clocks with output
unfoldable pub streamed : Stage
streamed = with_clocks stream 64 given

-- the values that are output, xored with those of the message
unfoldable pub encrypted : Netlist
encrypted = with_gates streamed.draft (xor_gates streamed.outputs (range_with_len 288 64))

-- trivium-step: the state after the clocks, and then the XORs, which are the last values, behind a fence
unfoldable pub named_step : Netlist
named_step = with_fence encrypted (streamed.state ++ range_with_len (value_count streamed.draft) 64)

abbrev pub size_step : Size
size_step = record { inputs = 352; outputs = 352; products = 192; refreshes = 544; values = 1_856 }

-- what it computes of its input bits: the state after 64 clocks, and then the message xored with what they output
unfoldable pub step_of_bits : List Bool → List Bool
step_of_bits x =
    let state = take 288 x in
    clocks 64 state ++ xor_bits (outputs 64 state) (drop 288 x)
