-- The circuits of PRESENT in counter mode.
use Rattle.std.specs.Prelude.{◌+◌, Bool, List, take, drop, bit_xor}
use Rattle.std.specs.List.{range_with_len}
use Rattle.mask_bits.specs.Reading.{lowest, number}
use Rattle.mask_circuit.specs.Netlist.{Netlist, value_count, only_inputs}
use Rattle.mask_parts.specs.CipherCircuits.{Size}
use Rattle.mask_parts.specs.Fences.{with_fence}
use Rattle.mask_tasks.specs.declared.sizes.KeySize.{KeySize}
use Rattle.mask_tasks.specs.declared.sizes.KeySize.TheVariants.{K80, K128}
use Rattle.mask_present.specs.Present.{Register, register, present}
use Rattle.mask_present.specs.Rounds.{Stage, xored, rounds}

-- the inputs: the key, then the counter block, then the message block
unfoldable pub start : Register → Stage
start r = record {
  draft = only_inputs (r.width + 128);
  key = range_with_len 0 r.width;
  block = range_with_len r.width 64;
}

-- the values of the counter block encrypted under the key, xored with those of the message block
unfoldable pub encrypted_message : Register → Netlist
encrypted_message r =
    let s = rounds r (start r) in
    xored s.draft s.block (range_with_len (r.width + 64) 64)

-- and a fence at these 64 values, which are the last
unfoldable pub named_of : Register → Netlist
named_of r = with_fence (encrypted_message r) (range_with_len (value_count (rounds r (start r)).draft) 64)

-- present-80 and present-128
unfoldable pub named_present : KeySize → Netlist
named_present size = named_of (register size)

-- how many inputs, outputs, products, refreshes and values they have
abbrev pub size_present : KeySize → Size
size_present K80 = record { inputs = 208; outputs = 64; products = 2635; refreshes = 2699; values = 16_166 }
size_present K128 = record { inputs = 256; outputs = 64; products = 2790; refreshes = 2854; values = 17_020 }

-- what they compute of their input bits: PRESENT of the counter block under the key, xored with the message block
unfoldable pub present_of_bits : KeySize → List Bool → List Bool
present_of_bits size x =
    let w = (register size).width in
    lowest 64 (bit_xor (present size (number (take w x)) (number (take 64 (drop w x)))) (number (take 64 (drop (w + 64) x))))
