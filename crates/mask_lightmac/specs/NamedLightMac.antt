-- The circuits of LightMAC over PRESENT: a step and the end.
use Rattle.std.specs.Prelude.{◌+◌, Bool, List, take, drop}
use Rattle.std.specs.List.{range_with_len}
use Rattle.mask_bits.specs.Reading.{lowest, number}
use Rattle.mask_circuit.specs.Netlist.{Netlist, only_inputs}
use Rattle.mask_parts.specs.CipherCircuits.{Size}
use Rattle.mask_parts.specs.Fences.{with_fence}
use Rattle.mask_tasks.specs.declared.sizes.KeySize.{KeySize}
use Rattle.mask_present.specs.NamedPresent.{named_present, size_present}
use Rattle.mask_present.specs.Present.{Register, register}
use Rattle.mask_present.specs.Rounds.{Stage, xored, rounds}
use Rattle.mask_lightmac.specs.LightMac.{absorbed, finished}

-- A STEP

-- lightmac-step-80 and lightmac-step-128: the circuit of PRESENT, where the counter block is that of a counter and a piece, and
-- the message block is V. So the inputs are K1, then that block, then V.
abbrev pub named_step : KeySize → Netlist
named_step size = named_present size

abbrev pub size_step : KeySize → Size
size_step size = size_present size

-- what it computes of its input bits: V after that block
unfoldable pub step_of_bits : KeySize → List Bool → List Bool
step_of_bits size x =
    let w = (register size).width in
    lowest 64 (absorbed size (number (take w x)) (number (take 64 (drop (w + 64) x))) (number (take 64 (drop w x))))

-- THE END

-- The inputs are K2, then V, then the last piece with its padding. V is xored with that piece first.
unfoldable pub end_start : Register → Stage
end_start r = record {
  draft = xored (only_inputs (r.width + 128)) (range_with_len r.width 64) (range_with_len (r.width + 64) 64);
  key = range_with_len 0 r.width;
  block = range_with_len (r.width + 128) 64;
}

-- The sums are encrypted under K2, with a fence at the 64 values of the encryption.
unfoldable pub end_of : Register → Netlist
end_of r = let s = rounds r (end_start r) in with_fence s.draft s.block

-- lightmac-end-80 and lightmac-end-128
unfoldable pub named_end : KeySize → Netlist
named_end size = end_of (register size)

-- their 64 XORs stand in front of the rounds, and those of a step behind them
abbrev pub size_end : KeySize → Size
size_end size = size_present size

-- what it computes of its input bits: the encryption whose first bytes are the tag
unfoldable pub end_of_bits : KeySize → List Bool → List Bool
end_of_bits size x =
    let w = (register size).width in
    lowest 64 (finished size (number (take w x)) (number (take 64 (drop w x))) (number (take 64 (drop (w + 64) x))))
