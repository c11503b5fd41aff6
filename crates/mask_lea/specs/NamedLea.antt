-- The circuits of LEA in counter mode.
use Rattle.std.specs.Prelude.{ℕ, zero, suc, ◌+◌, ◌*◌, Bool, List, [], ◌∷◌, take, drop, bit_xor}
use Rattle.std.specs.List.{range_with_len}
use Rattle.mask_bits.specs.Reading.{lowest, number}
use Rattle.mask_circuit.specs.declared.gates.Gate.TheVariants.{Zero, One}
use Rattle.mask_circuit.specs.Netlist.{Netlist, value_count, only_inputs}
use Rattle.mask_parts.specs.CipherCircuits.{Size}
use Rattle.mask_parts.specs.Drafts.{with_gates}
use Rattle.mask_parts.specs.Fences.{with_fence}
use Rattle.mask_parts.specs.Words32.{with_xor32}
use Rattle.mask_tasks.specs.declared.sizes.LeaSize.{LeaSize}
use Rattle.mask_tasks.specs.declared.sizes.LeaSize.TheVariants.{K128, K192, K256}
use Rattle.mask_lea.specs.Lea.{Schedule, schedule, lea}
use Rattle.mask_lea.specs.Rounds.{Stage, with_rounds}

-- n words of values in a row, from `first` on
unfoldable pub words_from : ℕ → ℕ → List (List ℕ)
words_from first zero = []
words_from first (suc n) = range_with_len first 32 ∷ words_from (first + 32) n

-- the bits of a key
abbrev pub width : Schedule → ℕ
width r = 32 * r.words

-- The inputs: the key, then the counter block, then the message block. The first two gates make the bits 0 and 1.
unfoldable pub start : Schedule → Stage
start r =
    let n = width r + 256 in
    record {
      draft = with_gates (only_inputs n) (Zero ∷ (One ∷ []));
      nought = n;
      one = n + 1;
      key = words_from 0 r.words;
      block = words_from (width r) 4;
    }

-- a block xored with another one, word by word
unfoldable pub with_blocks_xored : Netlist → List (List ℕ) → List (List ℕ) → Netlist
with_blocks_xored c (x ∷ xs) (y ∷ ys) = with_blocks_xored (with_xor32 c x y) xs ys
with_blocks_xored c xs ys = c

-- the words of the counter block encrypted under the key, xored with those of the message block
unfoldable pub encrypted_message : Schedule → Netlist
encrypted_message r =
    let s = with_rounds r (start r) in
    with_blocks_xored s.draft s.block (words_from (width r + 128) 4)

-- and a fence at these 128 values, which are the last
unfoldable pub named_of : Schedule → Netlist
named_of r = with_fence (encrypted_message r) (range_with_len (value_count (with_rounds r (start r)).draft) 128)

-- lea-128, lea-192 and lea-256
unfoldable pub named_lea : LeaSize → Netlist
named_lea size = named_of (schedule size)

-- how many inputs, outputs, products, refreshes and values they have
abbrev pub size_lea : LeaSize → Size
size_lea K128 = record { inputs = 384; outputs = 128; products = 5208; refreshes = 5336; values = 36_330 }
size_lea K192 = record { inputs = 448; outputs = 128; products = 7812; refreshes = 7940; values = 52_702 }
size_lea K256 = record { inputs = 512; outputs = 128; products = 8928; refreshes = 9056; values = 60_194 }

-- what they compute of their input bits: LEA of the counter block under the key, xored with the message block
unfoldable pub lea_of_bits : LeaSize → List Bool → List Bool
lea_of_bits size x =
    let w = width (schedule size) in
    lowest 128 (bit_xor (lea size (number (take w x)) (number (take 128 (drop w x)))) (number (take 128 (drop (w + 128) x))))
