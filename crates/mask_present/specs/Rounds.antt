-- The rounds of PRESENT on values of a circuit, layer by layer, with the gates in the order in which they are made.
--
-- A value is named by its number. A register and a block are lists of values, bit 0 first. Each layer appends its gates to
-- a draft and says which values stand for the register and the block afterwards.
use Rattle.std.specs.Prelude.{ℕ, zero, suc, ◌+◌, ◌-◌, ◌*◌, ◌%◌, ◌==◌, Bool, true, false, List, [], ◌∷◌, ◌++◌, length, take, drop, map, fold, slice_index, if◌then◌else◌}
use Rattle.std.specs.List.{range_with_len}
use Rattle.mask_bits.specs.Reading.{lowest}
use Rattle.mask_circuit.specs.declared.gates.Gate.{Gate}
use Rattle.mask_circuit.specs.declared.gates.Gate.TheVariants.{Not}
use Rattle.mask_circuit.specs.Netlist.{Netlist, value_count}
use Rattle.mask_parts.specs.Drafts.{with_gates}
use Rattle.mask_parts.specs.PresentSbox.{sbox_gates, sbox_results, with_sbox}
use Rattle.mask_parts.specs.Rows.{xor_gates}
use Rattle.mask_present.specs.Present.{Register}

-- a draft, and the values that stand for the key register and for the block
pub record Stage : Type 0 where
  pub draft : Netlist
  pub key : List ℕ
  pub block : List ℕ

unfoldable pub stage : Netlist → List ℕ → List ℕ → Stage
stage c us vs = record { draft = c; key = us; block = vs }

-- a block xored with another one
unfoldable pub xored : Netlist → List ℕ → List ℕ → Netlist
xored c us vs = with_gates c (xor_gates us vs)

-- the block xored with the round key, which is the highest 64 values of the register
unfoldable pub key_added : Register → Stage → Stage
key_added r s = record {
  draft = xored s.draft s.block (drop (r.width - 64) s.key);
  key = s.key;
  block = range_with_len (value_count s.draft) 64;
}

-- m S-boxes, each on the next four values; the first value made is n
unfoldable pub sboxes : ℕ → ℕ → List ℕ → List Gate
sboxes zero n us = []
sboxes (suc m) n us = sbox_gates n (take 4 us) ++ sboxes m (n + 26) (drop 4 us)

unfoldable pub sboxes_results : ℕ → ℕ → List ℕ
sboxes_results zero n = []
sboxes_results (suc m) n = sbox_results n ++ sboxes_results m (n + 26)

-- each nibble of the block through the S-box, the lowest first
unfoldable pub block_substituted : Stage → Stage
block_substituted s = record {
  draft = with_gates s.draft (sboxes 16 (value_count s.draft) s.block);
  key = s.key;
  block = sboxes_results 16 (value_count s.draft);
}

-- which bit of a block comes to place i: bit j goes to 16j modulo 63, so this one is 4i modulo 63
abbrev pub source : ℕ → ℕ
source i = if i == 63 then 63 else 4 * i % 63

unfoldable pub moved : List ℕ → List ℕ
moved us = map (λ i. slice_index us (source i)) (range_with_len 0 64)

-- the bits of the block moved, without gates
unfoldable pub block_moved : Stage → Stage
block_moved s = record { draft = s.draft; key = s.key; block = moved s.block }

-- the register rotated left by 61 places, without gates
unfoldable pub key_rotated : Register → Stage → Stage
key_rotated r s = record { draft = s.draft; key = drop (r.width - 61) s.key ++ take (r.width - 61) s.key; block = s.block }

-- the list with us in place of its elements from place `at` on
unfoldable pub with_stretch : {A : Type 0} → ℕ → List A → List A → List A
with_stretch at us xs = take at xs ++ (us ++ drop (at + length us) xs)

-- the four values of the register from place `at` on through the S-box
unfoldable pub key_replaced : Stage → ℕ → Stage
key_replaced s at = record {
  draft = with_sbox s.draft (take 4 (drop at s.key));
  key = with_stretch at (sbox_results (value_count s.draft)) s.key;
  block = s.block;
}

-- a NOT of each value whose flag is set
unfoldable pub not_gates : List Bool → List ℕ → List Gate
not_gates [] us = []
not_gates (b ∷ bs) [] = []
not_gates (true ∷ bs) (u ∷ us) = Not u ∷ not_gates bs us
not_gates (false ∷ bs) (u ∷ us) = not_gates bs us

-- the values, with the NOTs in place of those whose flag is set; the first value made is n
unfoldable pub not_results : ℕ → List Bool → List ℕ → List ℕ
not_results n [] us = us
not_results n (b ∷ bs) [] = []
not_results n (true ∷ bs) (u ∷ us) = n ∷ not_results (n + 1) bs us
not_results n (false ∷ bs) (u ∷ us) = u ∷ not_results n bs us

-- the five values of the register that the number i of the round is xored into
abbrev pub counter_values : Register → Stage → List ℕ
counter_values r s = take 5 (drop r.counter s.key)

-- a NOT of each of these where the bit of i is 1
unfoldable pub key_counted : Register → ℕ → Stage → Stage
key_counted r i s = record {
  draft = with_gates s.draft (not_gates (lowest 5 i) (counter_values r s));
  key = with_stretch r.counter (not_results (value_count s.draft) (lowest 5 i) (counter_values r s)) s.key;
  block = s.block;
}

-- the update of the register in round i
unfoldable pub key_updated : Register → ℕ → Stage → Stage
key_updated r i s = key_counted r i (fold key_replaced (key_rotated r s) r.nibbles)

-- the round key, the S-boxes and the layer of bits
unfoldable pub block_round : Register → Stage → Stage
block_round r s = block_moved (block_substituted (key_added r s))

unfoldable pub stage_after : Register → ℕ → Stage → Stage
stage_after r zero s = s
stage_after r (suc i) s = key_updated r (suc i) (block_round r (stage_after r i s))

-- 31 rounds, and the last round key
unfoldable pub rounds : Register → Stage → Stage
rounds r s = key_added r (stage_after r 31 s)
